-- A seat's stamps stand in what it was told.
use Rattle.std.proofs.Common.{◌≡◌, ◌+◌, ◌-◌, ◌<◌, ◌≤◌, ◌⊎◌, inl, inr, ℕ, suc, false, List, [], ◌∷◌, ◌++◌, length, length-append, Some, refl, sym, ap, subst, ◌∙◌, arith}
use Rattle.std.specs.Prelude.{nat_eq, Option, None, Result, Ok, Err, IfOk, IfSome}
use Rattle.std.specs.List.{All, AllByRecursion}
use Rattle.std.proofs.lemmas.List.Elements.{All-nil, All-cons, All-push, All-weaker}
use mathlib.Core.List.{IsPrefix}
use Rattle.change_list.specs.declared.write.Write.{Write}
use Rattle.change_list.specs.Changes.{commit_at}
use Rattle.change_list.proofs.Lists.{slice_get_end}
use Rattle.change_list.proofs.Made.{number_of_commit}
use Rattle.history.specs.Pasts.{IsPastOf}
use Rattle.history.proofs.Pasts.{prefix_get, prefix_length, prefix_self, prefix_trans}
use Rattle.key_class.specs.Rules.{Rules}
use Rattle.key_class.specs.declared.refusal.Refusal.{Refusal}
use Rattle.writes.specs.Moves.{RefusesMove}
use Rattle.world.specs.States.{State}
use Rattle.world.specs.Stamps.{Stamp}
use Rattle.desk.specs.Seats.{Seated, Stands, IsLastOf, Rises, AreAnswers}
use Rattle.desk.specs.Visits.{IsCommitted, IsInsertRefused, IsMoveRefused, OutOfMemoryOr, RefusesInsert}
use Rattle.desk.specs.Weaving.{SeatStands, Woven, NamesEachOnce}

module _ {K : Type 0} where
  -- a commit of a beginning is one of the whole
  commit_on : (xs ys : List (Write K)) (n : ℕ) (write : Write K) → IsPrefix xs ys → commit_at xs n ≡ Some write → commit_at ys n ≡ Some write
  commit_on xs ys n write begins there =
      let found = number_of_commit xs n write there in
      let some : nat_eq n 0 ≡ false = search (arith, found.0) in
      rw some (prefix_get xs ys (n - 1) write begins found.2)

  -- the number of the last commit is that of all commits
  last_commit : (xs : List (Write K)) (write : Write K) → commit_at (xs ++ write ∷ []) (length (xs ++ write ∷ [])) ≡ Some write
  last_commit xs write =
      let all : length (xs ++ write ∷ []) ≡ length xs + 1 = length-append xs (write ∷ []) in
      let some : nat_eq (length (xs ++ write ∷ [])) 0 ≡ false = search (arith, all) in
      let place : length (xs ++ write ∷ []) - 1 ≡ length xs = omega (arith, all) in
      rw (some, place) (slice_get_end xs write)

  -- numbers still rise with one more that is above all of them
  rises_more : (stamps : List (Stamp K)) (last most : ℕ) (s : Stamp K) → Rises last stamps → All (λ t. t.number ≤ most) stamps → last ≤ most → most < s.number → Rises last (stamps ++ s ∷ [])
  rises_more [] last most s rise within from above = (omega (arith, from, above), tt)
  rises_more (t ∷ ts) last most s rise within from above =
      (rise.0, rises_more ts t.number most s rise.1 (λ k d inside. within (suc k) d (omega (arith, inside))) (within 0 t (omega arith)) above)

  -- stamps that stand in a list stand in any longer one that begins with it
  pub answers_on : (xs ys : List (Write K)) (stamps : List (Stamp K)) → IsPrefix xs ys → AreAnswers xs stamps → AreAnswers ys stamps
  answers_on xs ys stamps begins answers = record {
    stand = All-weaker (Stands xs) (Stands ys) (λ s h. commit_on xs ys s.number s.write begins h) stamps answers.stand;
    rise = answers.rise;
  }

  -- what didn't change begins with itself
  pub same_told : (xs ys : List (Write K)) → ys ≡ xs → IsPrefix xs ys
  same_told xs ys same = subst (λ l. IsPrefix xs l) (sym same) (prefix_self xs)

  -- what was told, after nothing more had been told
  pub told_on : (xs ys zs : List (Write K)) → ys ≡ xs → IsPrefix ys zs → IsPrefix xs zs
  told_on xs ys zs same begins = subst (λ l. IsPrefix l zs) same begins

  -- a seat's stamps stand in the commits of a snapshot that it was told
  pub shown_stand : {E : Type 0} (r : Result (List (Write K)) E) (commits : List (Write K)) (s : Seated K) → IfOk r (λ l. l ≡ commits) → AreAnswers commits s.stamps → IfOk r (λ l. SeatStands l s)
  shown_stand (Ok l) commits s is answers = record { each = subst (λ c. All (Stands c) s.stamps) (sym is) answers.stand }
  shown_stand (Err e) commits s is answers = tt

  -- and in those of a view
  pub viewed_stand : (o : Option (List (Write K))) (commits : List (Write K)) (s : Seated K) → IfSome o (λ l. l ≡ commits) → AreAnswers commits s.stamps → IfSome o (λ l. SeatStands l s)
  viewed_stand (Some l) commits s is answers = record { each = subst (λ c. All (Stands c) s.stamps) (sym is) answers.stand }
  viewed_stand None commits s is answers = tt

  -- the seats' stamps stand in a list if each seat was told a beginning of it
  pub all_stand : (commits : List (Write K)) (seats : List (Seated K)) → AllByRecursion (λ s. IsPastOf s.told commits) seats → AllByRecursion (λ s. AreAnswers s.told s.stamps) seats
      → AllByRecursion (SeatStands commits) seats
  all_stand commits [] told answers = tt
  all_stand commits (s ∷ ss) told answers =
      (record { each = (answers_on s.told commits s.stamps told.0.begins answers.0).stand }, all_stand commits ss told.1 answers.1)

  pub all_rise : (seats : List (Seated K)) → AllByRecursion (λ s. AreAnswers s.told s.stamps) seats → All (λ s. Rises 0 s.stamps) seats
  all_rise [] answers = All-nil (λ (s : Seated K). Rises 0 s.stamps)
  all_rise (s ∷ ss) answers = All-cons (λ (s : Seated K). Rises 0 s.stamps) s ss answers.0.rise (all_rise ss answers.1)

module _ {K A : Type 0} (rules : Rules K A) where
  -- with the stamp of a commit
  pub answers_more : (xs ys : List (Write K)) (stamps : List (Stamp K)) (s : Stamp K) → IsCommitted rules xs ys s → AreAnswers xs stamps → AreAnswers ys (stamps ++ s ∷ [])
  answers_more xs ys stamps s made answers =
      let grown = made.did.0 in
      let told = made.did.3 in
      let all : length made.new.commits ≡ length made.old.commits + 1 = ap length grown ∙ length-append made.old.commits (s.write ∷ []) in
      let seen = prefix_length xs made.old.commits made.did.2 in
      let begins : IsPrefix xs ys = subst (IsPrefix xs) (sym grown ∙ told) (prefix_trans xs made.old.commits (made.old.commits ++ s.write ∷ []) made.did.2 (s.write ∷ [], refl)) in
      let stands : Stands ys s = subst (λ l. commit_at l s.number ≡ Some s.write) (sym grown ∙ told)
      (subst (λ n. commit_at (made.old.commits ++ s.write ∷ []) n ≡ Some s.write) (sym (made.did.1 ∙ ap length grown)) (last_commit made.old.commits s.write)) in
      let on = answers_on xs ys stamps begins answers in record {
        stand = All-push (Stands ys) stamps s on.stand stands;
        rise = rises_more stamps 0 (length xs) s answers.rise
            (All-weaker (Stands xs) (λ t. t.number ≤ length xs) (λ t h. (number_of_commit xs t.number t.write h).1) stamps answers.stand)
            (omega arith) (omega (arith, seen, all, made.did.1));
      }

  -- a commit that was made after nothing more had been told
  pub committed_on : (xs ys zs : List (Write K)) (s : Stamp K) → ys ≡ xs → IsCommitted rules ys zs s → IsCommitted rules xs zs s
  committed_on xs ys zs s same made = subst (λ l. IsCommitted rules l zs s) same made

  refuses_move : (world : State K A) (row : ℕ) (why : Refusal) → RefusesInsert world why → RefusesMove world world.search row why
  refuses_move world row why (inl full) = inl (inr (inr (inr full)))
  refuses_move world row why (inr wanting) = inr wanting

  -- why an insertion's split is refused is also why a move's is
  pub move_refused : (told : List (Write K)) (row : ℕ) (why : Refusal) → OutOfMemoryOr (IsInsertRefused rules told) why → OutOfMemoryOr (IsMoveRefused rules told row) why
  move_refused told row why (inl wanting) = inl wanting
  move_refused told row why (inr visit) = inr (record {
    old = visit.old;
    new = visit.new;
    found = visit.found;
    did = (visit.did.0, visit.did.1, refuses_move visit.old row why visit.did.2);
    left = visit.left;
  })

  pub last_of : (xs ys : List (Write K)) (s : Stamp K) → IsCommitted rules xs ys s → IsLastOf ys s
  last_of xs ys s made =
      let told = made.did.3 in (
        made.did.1 ∙ ap length told,
        subst (λ l. commit_at l s.number ≡ Some s.write) (sym made.did.0 ∙ told)
            (subst (λ n. commit_at (made.old.commits ++ s.write ∷ []) n ≡ Some s.write) (sym (made.did.1 ∙ ap length made.did.0)) (last_commit made.old.commits s.write)),
      )

  pub committed_seen : (xs ys : List (Write K)) (s : Stamp K) → IsCommitted rules xs ys s → IsPrefix xs ys
  committed_seen xs ys s made = subst (IsPrefix xs) (sym made.did.0 ∙ made.did.3) (prefix_trans xs made.old.commits (made.old.commits ++ s.write ∷ []) made.did.2 (s.write ∷ [], refl))

module _ {K : Type 0} where
  -- stamps that stand in what their seats were told, which begins the commits, are the commits if each number is told
  -- once
  pub woven_of : (commits history : List (Write K)) (seats kept : List (Seated K)) (n : ℕ) → history ≡ commits → kept ≡ seats → n ≡ length commits
      → AllByRecursion (λ s. IsPastOf s.told history) kept → AllByRecursion (λ s. AreAnswers s.told s.stamps) kept → NamesEachOnce n kept → Woven commits seats
  woven_of commits history seats kept n one same count told answers once =
      let begun : AllByRecursion (λ s. IsPastOf s.told commits) kept = subst (λ l. AllByRecursion (λ s. IsPastOf s.told l) kept) one told in
      subst (λ l. Woven commits l) same (record {
        stand = all_stand commits kept begun answers;
        rise = all_rise kept answers;
        once = subst (λ m. NamesEachOnce m kept) count once;
      })

  -- what seats were told begins the same list by another name
  pub told_of : (commits history : List (Write K)) (seats kept : List (Seated K)) → history ≡ commits → kept ≡ seats
      → AllByRecursion (λ s. IsPastOf s.told history) kept → AllByRecursion (λ s. IsPastOf s.told commits) seats
  told_of commits history seats kept one same told =
      subst (λ l. AllByRecursion (λ s. IsPastOf s.told commits) l) same (subst (λ l. AllByRecursion (λ s. IsPastOf s.told l) kept) one told)
