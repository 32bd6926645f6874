-- What becomes of the rows of a feed's tree.
use Rattle.std.proofs.Common.{◌≡◌, ◌+◌, ℕ, Bool, true, false, not, ◌||◌, List, [], ◌∷◌, ◌++◌, length, take, map, filter, Some, refl, sym, ap, ◌∙◌, arith, subst, append_assoc}
use Rattle.std.specs.Prelude.{All, Contains, nat_eq}
use Rattle.std.proofs.lemmas.Bool.{eqb-true}
use Rattle.std.proofs.lemmas.List.{append-nil}
use Rattle.std.proofs.lemmas.List.Elements.{All-filter, All-weaker, All-push}
use Rattle.std.proofs.Math.Seq.{take-length}
use Rattle.key_class.specs.Queries.{Query, query_of}
use Rattle.key_class.specs.Rules.{Rules, satisfies}
use Rattle.key_class.specs.declared.pred.Pred.{Pred}
use Rattle.change_list.specs.declared.item.Row.{Row}
use Rattle.change_list.specs.declared.write.Write.{Write}
use Rattle.change_list.specs.declared.write.Write.TheVariants.{Insert, Delete}
use Rattle.change_list.specs.Changes.{IsLegal, is_ended, made_rows, row_at, rows}
use Rattle.change_list.proofs.Made.{row_append, row_found, rows_found, row_of_new_insert, row_push}
use Rattle.change_list.proofs.Tracking.{none_ends}
use Rattle.scan.proofs.Commits.{ended_push}
use Rattle.snapshot.specs.Snapshots.{found_in}
use Rattle.store.specs.States.{Commits, Keeps, StoreState, SweepsStore, SweepsStorePart}
use Rattle.key_class.specs.declared.refusal.Refusal.{Refusal}
use Rattle.std.specs.Prelude.{IfOk, None, OnErr, OnOk, Option, Result, Ok, Err}
use Rattle.feed.specs.Planting.{AreTagged, HasRow, HasRows, IsPlanted, IsTagged, LivesAs, MayBePlanted, Tends}
use Rattle.feed.specs.Holding.{MayBeRooted}
use Rattle.feed.specs.Reaches.{reaches_of}
use Rattle.feed.proofs.Members.{contains_filter, contains_found, contains_map}

or_false : (b : Bool) → (b || false) ≡ b
or_false true = refl
or_false false = refl

or_both : (a b : Bool) → a ≡ false → b ≡ false → (a || b) ≡ false
or_both a b p q = rw (p, q) refl

module _ {K : Type 0} where
  pub tends_none : (tag : ℕ) (commits : List (Write K)) → IsLegal commits → Tends tag commits commits
  tends_none tag commits legal = record { more = []; is = sym (append-nil commits); legal = legal; others = λ number row lives other. lives }

  -- no keys are planted, with no rows
  pub planted_none : (commits : List (Write K)) (tag : ℕ) (numbers : List ℕ) → numbers ≡ [] → IsPlanted commits tag [] numbers
  planted_none commits tag numbers none = subst (λ l. IsPlanted commits tag [] l) (sym none) (record {
    rows = λ k d l. absurd (omega (arith, l));
    tagged = λ k d l. absurd (omega (arith, l));
  })

  pub tends_join : (tag : ℕ) (a b c : List (Write K)) → Tends tag a b → Tends tag b c → Tends tag a c
  tends_join tag a b c first second = record {
    more = first.more ++ second.more;
    is = second.is ∙ ap (λ l. l ++ second.more) first.is ∙ append_assoc a first.more second.more;
    legal = second.legal;
    others = λ number row lives other. second.others number row (first.others number row lives other) other;
  }

  pub tends_same : (tag : ℕ) (old new : List (Write K)) → IsLegal old → new ≡ old → Tends tag old new
  tends_same tag old new legal same = subst (λ cs. Tends tag old cs) (sym same) (tends_none tag old legal)

  -- an insert ends no row
  pub lives_insert : (commits : List (Write K)) (key : K) (tag number : ℕ) (row : Row K) → LivesAs commits number row → LivesAs (commits ++ Insert key tag ∷ []) number row
  lives_insert commits key tag number row l = record {
    is = row_push commits (Insert key tag) number row l.is;
    lives = ended_push commits (Insert key tag) number ∙ or_false (is_ended commits number) ∙ l.lives;
  }

  pub tends_insert : (commits new : List (Write K)) (key : K) (tag : ℕ) → new ≡ commits ++ Insert key tag ∷ [] → IsLegal new → Tends tag commits new
  tends_insert commits new key tag is legal = record {
    more = Insert key tag ∷ [];
    is = is;
    legal = legal;
    others = λ number row lives other. subst (λ cs. LivesAs cs number row) (sym is) (lives_insert commits key tag number row lives);
  }

  -- a delete of a row with the tag ends no row with another
  pub tends_delete : (commits new : List (Write K)) (tag ended : ℕ) → IsTagged commits tag ended → new ≡ commits ++ Delete ended ∷ [] → IsLegal new → Tends tag commits new
  tends_delete commits new tag ended tagged is legal = record {
    more = Delete ended ∷ [];
    is = is;
    legal = legal;
    others = λ number row lives other. subst (λ cs. LivesAs cs number row) (sym is) (stays number row lives other);
  }
    where
      stays : (number : ℕ) (row : Row K) → LivesAs commits number row → (row.tag ≡ tag → ⊥) → LivesAs (commits ++ Delete ended ∷ []) number row
      stays number row lives other = record {
        is = row_push commits (Delete ended) number row lives.is;
        lives = ended_push commits (Delete ended) number ∙ or_both (is_ended commits number) (nat_eq ended number) lives.lives (by_test (nat_eq ended number) refl);
      }
        where
          by_test : (b : Bool) → nat_eq ended number ≡ b → nat_eq ended number ≡ false
          by_test false e = e
          by_test true e =
              let same : ended ≡ number = eqb-true ended number e in
              let found : Some tagged.row ≡ Some row = sym tagged.is ∙ ap (row_at commits) same ∙ lives.is in
              let one : tagged.row ≡ row = cc in
              absurd (other (ap (λ (r : Row K). r.tag) (sym one) ∙ tagged.has_tag))

  pub tagged_stays : (tag other number : ℕ) (old new : List (Write K)) → Tends tag old new → IsTagged old other number → IsTagged new other number
  tagged_stays tag other number old new t g = record {
    row = g.row;
    is = ap (λ cs. row_at cs number) t.is ∙ row_append old t.more number g.row g.is;
    has_tag = g.has_tag;
  }

  pub are_tagged_stay : (tag other : ℕ) (numbers : List ℕ) (old new : List (Write K)) → Tends tag old new → AreTagged old other numbers → AreTagged new other numbers
  are_tagged_stay tag other numbers old new t all = All-weaker (IsTagged old other) (IsTagged new other) (λ number g. tagged_stays tag other number old new t g) numbers all

  -- rows with another tag stay
  pub rows_stay : (tag other : ℕ) (keys : List K) (old new : List (Write K)) → Tends tag old new → (other ≡ tag → ⊥) → HasRows old other keys → HasRows new other keys
  rows_stay tag other keys old new t apart all = All-weaker (HasRow old other) (HasRow new other) (λ key h. record {
    number = h.number;
    row = h.row;
    is = t.others h.number h.row h.is (λ e. apart (sym h.has_tag ∙ e));
    has_key = h.has_key;
    has_tag = h.has_tag;
  }) keys all

  -- one key more is planted
  module _ (commits new : List (Write K)) (key : K) (tag : ℕ) (keys : List K) (numbers : List ℕ) (legal : IsLegal commits) (is : new ≡ commits ++ Insert key tag ∷ []) (planted : IsPlanted commits tag keys numbers) where
    ended_later : is_ended new (length commits + 1) ≡ false
    ended_later =
        ap (λ cs. is_ended cs (length commits + 1)) is ∙ ended_push commits (Insert key tag) (length commits + 1) ∙ or_false (is_ended commits (length commits + 1))
        ∙ none_ends commits (length commits + 1) legal (omega arith)

    made : row_at new (length commits + 1) ≡ Some (record { row = length commits + 1; key = key; tag = tag })
    made = ap (λ cs. row_at cs (length commits + 1)) is ∙ row_of_new_insert commits key tag

    one_row : HasRow new tag key
    one_row = record {
      number = length commits + 1;
      row = record { row = length commits + 1; key = key; tag = tag };
      is = record { is = made; lives = ended_later };
      has_key = refl;
      has_tag = refl;
    }

    pub planted_more : (number : ℕ) → number ≡ length commits + 1 → IsPlanted new tag (keys ++ key ∷ []) (numbers ++ number ∷ [])
    planted_more number e = record {
      rows = All-push (HasRow new tag) keys key
          (All-weaker (HasRow commits tag) (HasRow new tag) (λ k h. record {
            number = h.number;
            row = h.row;
            is = subst (λ cs. LivesAs cs h.number h.row) (sym is) (lives_insert commits key tag h.number h.row h.is);
            has_key = h.has_key;
            has_tag = h.has_tag;
          }) keys planted.rows)
          one_row;
      tagged = All-push (IsTagged new tag) numbers number
          (All-weaker (IsTagged commits tag) (IsTagged new tag) (λ n g. record {
            row = g.row;
            is = ap (λ cs. row_at cs n) is ∙ row_append commits (Insert key tag ∷ []) n g.row g.is;
            has_tag = g.has_tag;
          }) numbers planted.tagged)
          (subst (λ n. IsTagged new tag n) (sym e) (record { row = record { row = length commits + 1; key = key; tag = tag }; is = made; has_tag = refl }));
    }

  row_among : (commits : List (Write K)) (number : ℕ) (row : Row K) → row_at commits number ≡ Some row → Contains (made_rows commits) row
  unfolding row_at
  row_among commits number row is = contains_found (λ r. nat_eq r.row number) (made_rows commits) row is

  -- a live row whose key a query asks for is found
  pub tag_found : {A : Type 0} (rules : Rules K A) (query : Pred A) (commits : List (Write K)) (tag : ℕ) (key : K) → satisfies rules (query_of query) key ≡ true → HasRow commits tag key
      → Contains (map (λ (r : Row K). r.tag) (found_in rules query commits)) tag
  tag_found rules query commits tag key wanted h =
      let asked = satisfies rules (query_of query) in
      let number : h.row.row ≡ h.number = (row_found commits h.number h.row h.is.is).0 in
      let alive : not (is_ended commits h.row.row) ≡ true = ap (λ n. not (is_ended commits n)) number ∙ ap not h.is.lives in
      let here = contains_filter (λ (r : Row K). not (is_ended commits r.row)) (made_rows commits) h.row alive (row_among commits h.number h.row h.is.is) in
      let matching = contains_filter (λ (r : Row K). asked r.key) (rows commits) h.row (ap asked h.has_key ∙ wanted) here in
      let all : take (length commits) commits ≡ commits = take-length commits in
      let found : Contains (found_in rules query commits) h.row = subst (λ cs. Contains (filter (λ (r : Row K). asked r.key) (rows cs)) h.row) (sym all) matching in
      subst (λ t. Contains (map (λ (r : Row K). r.tag) (found_in rules query commits)) t) h.has_tag (contains_map (λ (r : Row K). r.tag) (found_in rules query commits) h.row found)

  -- the rows that are found were made
  pub found_made : {A : Type 0} (rules : Rules K A) (query : Pred A) (commits : List (Write K)) → All (λ r. row_at commits r.row ≡ Some r) (found_in rules query commits)
  found_made rules query commits =
      let asked = satisfies rules (query_of query) in
      let made : Row K → Type 0 = λ r. row_at commits r.row ≡ Some r in
      let all : take (length commits) commits ≡ commits = take-length commits in
      subst (λ cs. All made (filter (λ (r : Row K). asked r.key) (rows cs))) (sym all)
      (All-filter (λ (r : Row K). asked r.key) made (rows commits) (All-filter (λ (r : Row K). not (is_ended commits r.row)) made (made_rows commits) (rows_found commits)))

module _ {K A : Type 0} (matching : A → K → Bool) (tag : ℕ) (old new : StoreState K A) (legal : IsLegal old.commits) (later : IsLegal new.commits) where
  -- what a delete leaves, whether it is refused or not
  pub tree_deleted : (row : ℕ) (result : Result ℕ Refusal) → IsTagged old.commits tag row → OnOk result (Commits matching old (Delete row) new) → OnErr result (Keeps matching old new) → Tends tag old.commits new.commits
  tree_deleted row (Ok n) tagged ok err = tends_delete old.commits new.commits tag row tagged ok.commits later
  tree_deleted row (Err why) tagged ok err = tends_same tag old.commits new.commits legal err.commits

module _ {K A : Type 0} (matching : A → K → Bool) (old new : StoreState K A) where
  -- a sweep, even if memory runs out during it, leaves the commits unchanged
  pub tree_swept : (result : Result ℕ Refusal) → IfOk result (λ n. SweepsStore matching old n new) → OnErr result (SweepsStorePart matching old new) → new.commits ≡ old.commits
  tree_swept (Ok n) ok err = ok.rest.commits
  tree_swept (Err why) ok err = err.rest.commits

module _ {K A : Type 0} (reach_of : A → Option K) (size_of : K → ℕ) where
  -- what was planted under the keys that a query reaches is rooted for the query
  pub may_be_rooted : (commits : List (Write K)) (query : Query A) (number : ℕ) (keys : List K) → reaches_of reach_of size_of query ≡ Some keys
      → (rows : Option (List ℕ)) → MayBePlanted commits number keys rows → MayBeRooted reach_of size_of commits query number rows
  may_be_rooted commits query number keys reached None p = tt
  may_be_rooted commits query number keys reached (Some rows) p = record {
    planted = record { keys = keys; reaches = reached; rows = p.rows };
    tagged = p.tagged;
  }
