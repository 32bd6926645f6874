-- The changes that a loop over commits has told so far.
use Rattle.std.proofs.Common.{◌≡◌, ◌⊎◌, inl, inr, ℕ, ◌+◌, ◌-◌, ◌<◌, ◌≤◌, Bool, List, [], ◌∷◌, ◌++◌, length, take, min, Option, Some, None, refl, sym, ap, ap₂, subst, ◌∙◌, arith, append_assoc}
use Rattle.std.specs.Prelude.{option_and_then, option_to_list}
use Rattle.std.proofs.lemmas.List.{append-nil, length-append}
use Rattle.std.proofs.lemmas.Bool.{cases_lt}
use Rattle.std.proofs.lemmas.Option.{slice_get_past}
use Rattle.std.proofs.Math.Seq.{take-append_seam}
use Rattle.key_class.specs.Queries.{query_of}
use Rattle.key_class.specs.Rules.{Rules, satisfies}
use Rattle.key_class.specs.declared.pred.Pred.{Pred}
use Rattle.change_list.specs.declared.item.Item.{Item}
use Rattle.change_list.specs.declared.write.Write.{Write}
use Rattle.change_list.specs.Changes.{changes, item_at, item_of}
use Rattle.change_list.specs.Listings.{AreChanges}
use Rattle.change_list.proofs.Pushing.{changes_more, changes_none, changes_split}
use Rattle.snapshot.specs.Snapshots.{Appends}

none_some : {X : Type 0} {x : X} → None ≡ Some x → ⊥
none_some h = cc

module _ {K : Type 0} (wanted : K → Bool) (from most : ℕ) (commits : List (Write K)) (old : List (Item K)) where
  -- the changes up to a commit are behind the items that there were
  pub record IsPassing (new : List (Item K)) (upto : ℕ) : Type 0 where
    pub given : List (Item K)
    pub is : new ≡ old ++ given
    pub changes : AreChanges wanted from upto commits given
    pub few : length given ≤ most

  pub none_passed : from ≤ length commits → IsPassing old from
  none_passed within = record {
    given = [];
    is = sym (append-nil old);
    changes = record { from_before = omega arith; within = within; is = sym (changes_none wanted from commits) };
    few = omega arith;
  }

  given_count : (new : List (Item K)) (upto : ℕ) (p : IsPassing new upto) → length new ≡ length old + length p.given
  given_count new upto p = ap length p.is ∙ length-append old p.given

  at_most_one : (o : Option (Item K)) → length (option_to_list o) ≤ 1
  at_most_one (Some i) = omega arith
  at_most_one None = omega arith

  -- one commit more
  one_passed : (new new' : List (Item K)) (upto : ℕ) → IsPassing new upto → upto < length commits → length new - length old < most
      → new' ≡ new ++ option_to_list (item_at wanted commits upto) → IsPassing new' (upto + 1)
  one_passed new new' upto p within room e =
      let o = option_to_list (item_at wanted commits upto) in record {
        given = p.given ++ o;
        is = e ∙ ap (λ l. l ++ o) p.is ∙ append_assoc old p.given o;
        changes = record {
          from_before = omega (arith, p.changes.from_before);
          within = omega (arith, within);
          is = ap (λ l. l ++ o) p.changes.is ∙ sym (changes_more wanted from upto commits p.changes.from_before);
        };
        few = omega (arith, given_count new upto p, room, length-append p.given o, at_most_one (item_at wanted commits upto));
      }

  -- one commit more, which has an item
  one_told : (new roomy new' : List (Item K)) (upto : ℕ) (item : Item K) → IsPassing new upto → upto < length commits → length new - length old < most
      → roomy ≡ new → new' ≡ roomy ++ item ∷ [] → item_at wanted commits upto ≡ Some item → IsPassing new' (upto + 1)
  one_told new roomy new' upto item p within room same pushed is =
      one_passed new new' upto p within room (pushed ∙ ap (λ l. l ++ item ∷ []) same ∙ ap (λ o. new ++ option_to_list o) (sym is))

  -- one commit more, which has none
  none_told : (new new' : List (Item K)) (upto : ℕ) → IsPassing new upto → upto < length commits → length new - length old < most
      → new' ≡ new → item_at wanted commits upto ≡ None → IsPassing new' (upto + 1)
  none_told new new' upto p within room same is =
      one_passed new new' upto p within room (same ∙ sym (append-nil new) ∙ ap (λ o. new ++ option_to_list o) (sym is))

  -- commits that have none
  pub all_none : (new : List (Item K)) (upto next : ℕ) → IsPassing new upto → AreChanges wanted upto next commits [] → IsPassing new next
  all_none new upto next p none =
      let more = next - upto in
      let same : upto + more ≡ next = omega (arith, none.from_before) in record {
        given = p.given;
        is = p.is;
        changes = record {
          from_before = omega (arith, p.changes.from_before, none.from_before);
          within = none.within;
          is = subst (λ n. p.given ≡ changes wanted from n commits) same
              (sym (append-nil p.given) ∙ ap₂ (λ l r. l ++ r) p.changes.is (subst (λ n. [] ≡ changes wanted upto n commits) (sym same) none.is)
              ∙ sym (changes_split wanted from upto more commits p.changes.from_before));
        };
        few = p.few;
      }

  -- an item is that of a commit
  pub item_within : (place : ℕ) (item : Item K) → item_at wanted commits place ≡ Some item → place < length commits
  item_within place item h = elim (cases_lt place (length commits)) [
    | inl within ↦ within
    | inr past ↦ absurd (none_some (sym (ap (option_and_then (item_of wanted (take place commits) (place + 1))) (slice_get_past commits place past)) ∙ h))
  ]

  -- the next commit has an item
  pub next_told : (new roomy new' : List (Item K)) (next upto : ℕ) (item : Item K) → IsPassing new next → length new - length old < most
      → roomy ≡ new → new' ≡ roomy ++ item ∷ [] → item_at wanted commits next ≡ Some item → upto ≡ min (length commits) (next + 1) → IsPassing new' upto
  next_told new roomy new' next upto item p room same pushed told is =
      let within = item_within next item told in
      subst (IsPassing new') (let same : next + 1 ≡ upto = omega (arith, within, is) in same) (one_told new roomy new' next item p within room same pushed told)

  -- the next commit, if there is one, has none
  pub next_none : (new : List (Item K)) (next upto : ℕ) → IsPassing new next → length new - length old < most → item_at wanted commits next ≡ None → upto ≡ min (length commits) (next + 1) → IsPassing new upto
  next_none new next upto p room none is = elim (cases_lt next (length commits)) [
    | inl within ↦ subst (IsPassing new) (let same : next + 1 ≡ upto = omega (arith, within, is) in same) (none_told new new next p within room refl none)
    | inr past ↦ subst (IsPassing new) (let same : next ≡ upto = omega (arith, past, is, p.changes.within) in same) p
  ]

  pub none_given : (new : List (Item K)) (upto : ℕ) → IsPassing new upto → take (length old) new ≡ old
  none_given new upto p = ap (take (length old)) p.is ∙ take-append_seam old p.given

  pub count_before : (new : List (Item K)) (upto : ℕ) → IsPassing new upto → length old ≤ length new
  count_before new upto p = omega (arith, given_count new upto p)

-- all was told up to the last commit, or as many as may be
pub all_passed : {K A : Type 0} (rules : Rules K A) (query : Pred A) (from most : ℕ) (commits : List (Write K)) (old new : List (Item K)) (upto : ℕ)
    → IsPassing (satisfies rules (query_of query)) from most commits old new upto
    → (length commits ≤ upto) ⊎ (most ≤ length new - length old)
    → Appends rules query from most commits old new upto
all_passed rules query from most commits old new upto p over =
    let n = given_count (satisfies rules (query_of query)) from most commits old new upto p in record {
      given = p.given;
      is = p.is;
      changes = p.changes;
      few = p.few;
      ends = elim over [
        | inl l ↦ inl (omega (arith, l, p.changes.within))
        | inr r ↦ inr (omega (arith, r, n, p.few))
      ];
    }
