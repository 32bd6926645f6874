-- What a feed gives as it goes on.
use Rattle.std.proofs.Common.{◌≡◌, ◌+◌, ◌<◌, ◌≤◌, ℕ, max, min, Bool, true, false, cond, List, [], ◌∷◌, ◌++◌, length, Option, Some, None, refl, sym, ap, ◌∙◌, arith, subst}
use Rattle.std.specs.Prelude.{nat_eq, nat_le, nat_lt}
use Rattle.std.specs.List.{list_any}
use Rattle.std.specs.Option.{option_map_or}
use Rattle.std.proofs.lemmas.List.{append-nil}
use Rattle.key_class.specs.Rules.{Rules, satisfies}
use Rattle.change_list.specs.declared.item.Item.{Item}
use Rattle.change_list.specs.declared.write.Write.{Write}
use Rattle.change_list.specs.Changes.{changes}
use Rattle.change_list.proofs.Pushing.{changes_none}
use Rattle.world.specs.Serials.{Rise, member}
use Rattle.world.proofs.Serials.{member_within}
use Rattle.feed.specs.declared.registration.Registration.{Registration}
use Rattle.feed.specs.Asking.{Gives, due_upto, under}
use Rattle.feed.specs.Feeds.{Advances, AdvancesBy, AdvancesByInto, AdvancesInto, FeedState, IsGivenUpto, Subscription, acknowledged, in_commits, items_under, needs_before}
use Rattle.feed.specs.Holding.{feed_state, serial_of}
use Rattle.feed.specs.Numberings.{MayNumber, commit_of, last_revision}
use Rattle.feed.specs.declared.numbering.Numbering.{Numbering}
use Rattle.feed.proofs.Giving.{items_under-append, under_other, under_same}
use Rattle.feed.proofs.Keeping.{all_given}

module _ {K A : Type 0} (rules : Rules K A) (numbering : Numbering) (commits : List (Write K)) where
  -- what is due up to a revision is all changes, or nothing if the subscription begins later
  is_given : (later : ℕ) (s : Subscription A) (items : List (Item K)) → commit_of numbering later ≤ length commits → items ≡ due_upto rules numbering commits later s
      → IsGivenUpto rules commits (commit_of numbering later) (in_commits numbering s) items
  is_given later s items within is = record {
    changes = λ l.
        let m : commit_of numbering (max s.at later) ≡ commit_of numbering later = omega (arith, l) in
        record { from_before = l; within = within; is = is ∙ ap (λ n. changes (satisfies rules s.query) (commit_of numbering s.at) n commits) m };
    later = λ l.
        let m : commit_of numbering (max s.at later) ≡ commit_of numbering s.at = omega (arith, l) in
        is ∙ ap (λ n. changes (satisfies rules s.query) (commit_of numbering s.at) n commits) m ∙ changes_none (satisfies rules s.query) (commit_of numbering s.at) commits;
  }

  -- a feed that gave what is due may go on
  pub advances : (upto passed last most later : ℕ) (registrations : List (ℕ × Registration A)) (given : List (ℕ × Item K)) → MayNumber numbering commits
      → later ≡ min (max numbering.oldest upto + most) (last_revision numbering commits)
      → Gives (due_upto rules numbering commits later) (feed_state upto passed last registrations) given
      → AdvancesBy rules numbering (feed_state upto passed last registrations) commits most given (acknowledged later (feed_state upto passed last registrations))
  advances upto passed last most later registrations given may is gives =
      let within : commit_of numbering later ≤ length commits = omega (arith, is, may.begun) in
      record {
        upto = is;
        subscriptions = refl;
        last = refl;
        each = λ serial s found. is_given later s (items_under serial given) within (gives serial ∙ ap (λ o. option_map_or (due_upto rules numbering commits later) o []) found);
        no_others = λ serial none. gives serial ∙ ap (λ o. option_map_or (due_upto rules numbering commits later) o []) none;
      }

-- the feed has gone on
pub is_acknowledged : {A : Type 0} (upto passed last later : ℕ) (registrations : List (ℕ × Registration A)) → Rise serial_of 0 last registrations → upto ≤ later
    → feed_state later last last registrations ≡ acknowledged later (feed_state upto passed last registrations)
is_acknowledged upto passed last later registrations rise further = ap (λ s. record { upto = later; subscriptions = s; last = last }) (all_given upto passed 0 last later registrations rise further)

-- where each commit is the revision with its number
module _ {K A : Type 0} (rules : Rules K A) (numbering : Numbering) (none_begun : numbering.begun ≡ 0) (from_none : numbering.oldest ≡ 0) where
  own_number : (n : ℕ) → commit_of numbering n ≡ n
  own_number n = omega (arith, none_begun, from_none)

  own_upto : (commits : List (Write K)) (n : ℕ) (s : Subscription A) (items : List (Item K)) → IsGivenUpto rules commits (commit_of numbering n) (in_commits numbering s) items → IsGivenUpto rules commits n s items
  own_upto commits n s items given =
      subst (λ m. IsGivenUpto rules commits m s items) (own_number n)
      (subst (λ m. IsGivenUpto rules commits (commit_of numbering n) (record s { at = m }) items) (own_number s.at) given)

  own_advances : (old : FeedState A) (commits : List (Write K)) (most : ℕ) (given : List (ℕ × Item K)) (new : FeedState A) → AdvancesBy rules numbering old commits most given new → Advances rules old commits most given new
  own_advances old commits most given new by = record {
    upto = omega (arith, by.upto, none_begun, from_none);
    subscriptions = by.subscriptions;
    last = by.last;
    each = λ serial s found. own_upto commits new.upto s (items_under serial given) (by.each serial s found);
    no_others = by.no_others;
  }

  pub own_into : (old : FeedState A) (commits : List (Write K)) (most : ℕ) (before after : List (ℕ × Item K)) (new : FeedState A) → AdvancesByInto rules numbering old commits most before after new
      → AdvancesInto rules old commits most before after new
  own_into old commits most before after new by = record { given = by.given; is = by.is; advances = own_advances old commits most by.given new by.advances }

-- no subscription needs changes from before revision 0
pub none_needed : {A : Type 0} (subscriptions : List (Subscription A)) → list_any (needs_before 0) subscriptions ≡ false
none_needed [] = refl
none_needed (s ∷ subscriptions) = let e : nat_lt s.at 0 ≡ false = search arith in rw e (none_needed subscriptions)

-- what was missed is told to one serial after the other
module _ {A X : Type 0} (missed : ℕ × Registration A → List X) (registrations : List (ℕ × Registration A)) where
  -- what the subscription with a serial has missed
  abbrev pub missed_by : ℕ → List X
  missed_by serial = option_map_or missed (member serial_of serial registrations) []

module _ {K A : Type 0} (missed : ℕ × Registration A → List (Item K)) (registrations : List (ℕ × Registration A)) where
  -- each serial up to n was told what it had missed
  abbrev pub TellsUpto : ℕ → List (ℕ × Item K) → Type 0
  TellsUpto n given = (serial : ℕ) → items_under serial given ≡ cond (nat_le serial n) (missed_by missed registrations serial) []

  pub tells_none : (n : ℕ) → ((serial : ℕ) → serial ≤ n → missed_by missed registrations serial ≡ []) → TellsUpto n []
  tells_none n nothing serial = by_test (nat_le serial n) refl
    where
      by_test : (b : Bool) → nat_le serial n ≡ b → [] ≡ cond b (missed_by missed registrations serial) []
      by_test true e = let within : serial ≤ n = search (arith, e) in sym (nothing serial within)
      by_test false e = refl

  -- the next serial belongs to no subscription
  pub tells_nobody : (n : ℕ) (given : List (ℕ × Item K)) → TellsUpto n given → member serial_of (n + 1) registrations ≡ None → TellsUpto (n + 1) given
  tells_nobody n given told none serial = told serial ∙ by_test (nat_le serial n) refl (nat_le serial (n + 1)) refl
    where
      by_test : (b : Bool) → nat_le serial n ≡ b → (c : Bool) → nat_le serial (n + 1) ≡ c → cond b (missed_by missed registrations serial) [] ≡ cond c (missed_by missed registrations serial) []
      by_test true e true f = refl
      by_test true e false f = let l : serial ≤ n = search (arith, e) in let m : n + 1 < serial = search (arith, f) in absurd (omega (arith, l, m))
      by_test false e true f =
          let l : n < serial = search (arith, e) in
          let m : serial ≤ n + 1 = search (arith, f) in
          let one : serial ≡ n + 1 = omega (arith, l, m) in
          sym (ap (missed_by missed registrations) one ∙ ap (λ o. option_map_or missed o []) none)
      by_test false e false f = refl

  -- the subscription with the next serial is told
  pub tells_next : (n : ℕ) (given : List (ℕ × Item K)) (x : ℕ × Registration A) → TellsUpto n given → member serial_of (n + 1) registrations ≡ Some x → TellsUpto (n + 1) (given ++ under (n + 1) (missed x))
  tells_next n given x told is serial = items_under-append serial given (under (n + 1) (missed x)) ∙ ap (λ l. l ++ items_under serial (under (n + 1) (missed x))) (told serial) ∙ by_test (nat_eq serial (n + 1)) refl
    where
      by_test : (b : Bool) → nat_eq serial (n + 1) ≡ b → cond (nat_le serial n) (missed_by missed registrations serial) [] ++ items_under serial (under (n + 1) (missed x)) ≡ cond (nat_le serial (n + 1)) (missed_by missed registrations serial) []
      by_test true e =
          let one : serial ≡ n + 1 = search (arith, e) in
          let before : nat_le serial n ≡ false = search (arith, one) in
          let now : nat_le serial (n + 1) ≡ true = search (arith, one) in
          rw (before, now) (ap (λ m. items_under m (under (n + 1) (missed x))) one ∙ under_same (n + 1) (missed x) ∙ sym (ap (missed_by missed registrations) one ∙ ap (λ o. option_map_or missed o []) is))
      by_test false e =
          let apart : n + 1 ≡ serial → ⊥ = λ same. let t : nat_eq serial (n + 1) ≡ true = search (arith, same) in let f : true ≡ false = sym t ∙ e in absurd (cc) in
          ap (λ l. cond (nat_le serial n) (missed_by missed registrations serial) [] ++ l) (under_other serial (n + 1) (missed x) apart)
          ∙ append-nil (cond (nat_le serial n) (missed_by missed registrations serial) [])
          ∙ ap (λ b. cond b (missed_by missed registrations serial) []) (same_test (nat_le serial n) refl (nat_le serial (n + 1)) refl)
        where
          same_test : (b : Bool) → nat_le serial n ≡ b → (c : Bool) → nat_le serial (n + 1) ≡ c → b ≡ c
          same_test true f true g = refl
          same_test true f false g = let l : serial ≤ n = search (arith, f) in let m : n + 1 < serial = search (arith, g) in absurd (omega (arith, l, m))
          same_test false f true g =
              let l : n < serial = search (arith, f) in
              let m : serial ≤ n + 1 = search (arith, g) in
              let one : serial ≡ n + 1 = omega (arith, l, m) in
              let t : nat_eq serial (n + 1) ≡ true = search (arith, one) in
              let c : true ≡ false = sym t ∙ e in
              absurd (cc)
          same_test false f false g = refl

  -- all serials that were given were told
  pub tells_all : (n last : ℕ) (given : List (ℕ × Item K)) → Rise serial_of 0 last registrations → last ≤ n → TellsUpto n given → (serial : ℕ) → items_under serial given ≡ missed_by missed registrations serial
  tells_all n last given rise all told serial = told serial ∙ by_test (nat_le serial n) refl
    where
      by_test : (b : Bool) → nat_le serial n ≡ b → cond b (missed_by missed registrations serial) [] ≡ missed_by missed registrations serial
      by_test true e = refl
      by_test false e = let beyond : n < serial = search (arith, e) in sym (by_member (member serial_of serial registrations) refl (omega (arith, beyond, all)))
        where
          by_member : (o : Option (ℕ × Registration A)) → member serial_of serial registrations ≡ o → last < serial → missed_by missed registrations serial ≡ []
          by_member None f l = ap (λ o. option_map_or missed o []) f
          by_member (Some x) f l = absurd (omega (arith, l, (member_within serial_of serial 0 last registrations x rise f).1))
