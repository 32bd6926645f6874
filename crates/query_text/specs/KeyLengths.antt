-- Reading a key leaves fewer tokens.
use Rattle.std.specs.Prelude.{ℕ, ℤ, ◌<◌, ◌≤◌, Bool, true, false, List, [], ◌∷◌, length, Option, Some, None, Ok, Err, if◌then◌else◌}
use Rattle.std.proofs.Common.{arith}
use Rattle.query_text.specs.Tokens.{Token, Placed, number_within, least_i32, most_i32, least_i64, most_i64}
use Rattle.query_text.specs.Keys.{Reading, ◌>>=◌, or_fault_at, expected_at, number_at, is_open_bracket, is_close_bracket, is_open_brace, is_close_brace, LeavesFewer}
use Rattle.query_text.specs.IntervalTexts.{interval_of, interval_at}
use Rattle.query_text.specs.BoxTexts.{box_of, box_at}
use Rattle.query_text.specs.SetTexts.{element_of, elements_at, with_elements, set_at}

if_leaves : {A : Type 0} (b : Bool) (n : ℕ) (x y : Reading A) → LeavesFewer n x → LeavesFewer n y → LeavesFewer n (if b then x else y)
if_leaves true n x y p q = p
if_leaves false n x y p q = q

or_fault_leaves : {A : Type 0} (n place : ℕ) (rest : List Placed) (x : Option A) → length rest < n → LeavesFewer n (or_fault_at place rest x)
or_fault_leaves n place rest (Some x) h = h
or_fault_leaves n place rest None h = tt

then_leaves : {A B : Type 0} (m n : ℕ) (r : Reading A) (f : A × List Placed → Reading B) → m ≤ n → LeavesFewer m r → ((x : A × List Placed) → length x.1 < n → LeavesFewer n (f x)) → LeavesFewer n (r >>= f)
then_leaves m n (Ok x) f le h g = g x (omega arith)
then_leaves m n (Err place) f le h g = tt

expected_leaves : (test : Token → Bool) (len : ℕ) (ts : List Placed) → LeavesFewer (length ts) (expected_at test len ts)
expected_leaves test len [] = tt
expected_leaves test len (t ∷ ts) = if_leaves (test t.token) (length (t ∷ ts)) (Ok (t.place, ts)) (Err t.place) (omega arith) tt

number_leaves : (least most : ℤ) (len : ℕ) (ts : List Placed) → LeavesFewer (length ts) (number_at least most len ts)
number_leaves least most len [] = tt
number_leaves least most len (t ∷ ts) = or_fault_leaves (length (t ∷ ts)) t.place ts (number_within least most t.token) (omega arith)

pub interval_leaves_fewer : (len : ℕ) (ts : List Placed) → LeavesFewer (length ts) (interval_at len ts)
unfolding interval_at
interval_leaves_fewer len ts =
    let n = length ts in
    then_leaves n n (expected_at is_open_bracket len ts) _ (omega arith) (expected_leaves is_open_bracket len ts) (λ a h.
    then_leaves (length a.1) n (number_at least_i64 most_i64 len a.1) _ (omega arith) (number_leaves least_i64 most_i64 len a.1) (λ b i.
    then_leaves (length b.1) n (number_at least_i64 most_i64 len b.1) _ (omega arith) (number_leaves least_i64 most_i64 len b.1) (λ c j.
    then_leaves (length c.1) n (expected_at is_close_bracket len c.1) _ (omega arith) (expected_leaves is_close_bracket len c.1) (λ d k.
    or_fault_leaves n a.0 d.1 (interval_of b.0 c.0) k))))

pub box_leaves_fewer : (len : ℕ) (ts : List Placed) → LeavesFewer (length ts) (box_at len ts)
unfolding box_at
box_leaves_fewer len ts =
    let n = length ts in
    then_leaves n n (expected_at is_open_bracket len ts) _ (omega arith) (expected_leaves is_open_bracket len ts) (λ a h.
    then_leaves (length a.1) n (number_at least_i32 most_i32 len a.1) _ (omega arith) (number_leaves least_i32 most_i32 len a.1) (λ b i.
    then_leaves (length b.1) n (number_at least_i32 most_i32 len b.1) _ (omega arith) (number_leaves least_i32 most_i32 len b.1) (λ c j.
    then_leaves (length c.1) n (number_at least_i32 most_i32 len c.1) _ (omega arith) (number_leaves least_i32 most_i32 len c.1) (λ d k.
    then_leaves (length d.1) n (number_at least_i32 most_i32 len d.1) _ (omega arith) (number_leaves least_i32 most_i32 len d.1) (λ e l.
    then_leaves (length e.1) n (expected_at is_close_bracket len e.1) _ (omega arith) (expected_leaves is_close_bracket len e.1) (λ f m.
    or_fault_leaves n a.0 f.1 (box_of b.0 c.0 d.0 e.0) m))))))

elements_leave_fewer : (len : ℕ) (ts : List Placed) → LeavesFewer (length ts) (elements_at len ts)
elements_leave_fewer len [] = tt
elements_leave_fewer len (t ∷ ts) =
    let n = length (t ∷ ts) in
    if_leaves (is_close_brace t.token) n _ _ (omega arith)
    (then_leaves n n (or_fault_at t.place ts (element_of t.token)) _ (omega arith) (or_fault_leaves n t.place ts (element_of t.token) (omega arith)) (λ e h.
    then_leaves (length ts) n (elements_at len ts) _ (omega arith) (elements_leave_fewer len ts) (λ es i. i)))

with_elements_leaves : (m n mask : ℕ) (r : Reading (List ℕ)) → m ≤ n → LeavesFewer m r → LeavesFewer n (with_elements mask r)
with_elements_leaves m n mask (Ok x) le h = omega arith
with_elements_leaves m n mask (Err place) le h = tt

pub set_leaves_fewer : (len : ℕ) (ts : List Placed) → LeavesFewer (length ts) (set_at len ts)
unfolding set_at
set_leaves_fewer len ts =
    let n = length ts in
    then_leaves n n (expected_at is_open_brace len ts) _ (omega arith) (expected_leaves is_open_brace len ts) (λ a h.
    with_elements_leaves (length a.1) n 0 (elements_at len a.1) (omega arith) (elements_leave_fewer len a.1))
