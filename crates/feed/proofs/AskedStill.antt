-- Topics begin and end, and the others are still tested.
use Rattle.std.proofs.Common.{◌≡◌, ◌≢◌, ◌+◌, ◌<◌, ℕ, Bool, true, false, List, Option, Some, None, refl, sym, ap, ◌∙◌, arith, subst, inl, inr}
use Rattle.std.specs.Prelude.{Contains, nat_eq, slice_index_or}
use Rattle.key_class.specs.Queries.{Query, query_of}
use Rattle.change_list.specs.declared.write.Write.{Write}
use Rattle.feed.specs.declared.topics.Topic.{Topic}
use Rattle.feed.specs.Holding.{AreEnrolled, IsAsked, IsEnrolled, IsPlantedIn}
use Rattle.feed.specs.Planting.{Tends}
use Rattle.feed.proofs.Tending.{rows_stay}

module _ {K A : Type 0} (reach_of : A → Option K) (size_of : K → ℕ) where
  planted_stays : (tag : ℕ) (commits later : List (Write K)) (query : Query A) (number : ℕ) → Tends tag commits later → number ≢ tag → IsPlantedIn reach_of size_of commits query number → IsPlantedIn reach_of size_of later query number
  planted_stays tag commits later query number t apart p = record { keys = p.keys; reaches = p.reaches; rows = rows_stay tag number p.keys commits later t apart p.rows }

  -- another topic's query is tested as before
  asked_stays : (tag : ℕ) (commits later : List (Write K)) (before after : List ℕ) (query : Query A) (number : ℕ) → Tends tag commits later → ((other : ℕ) → other ≢ tag → Contains before other → Contains after other) → number ≢ tag
      → IsAsked reach_of size_of commits before query number → IsAsked reach_of size_of later after query number
  asked_stays tag commits later before after query number t stay apart asked = elim asked [
    | inl c ↦ inl (stay number apart c)
    | inr p ↦ inr (planted_stays tag commits later query number t apart p)
  ]

  module _ (commits later : List (Write K)) (before after : List ℕ) (old new : List (Option (Topic A))) (h : AreEnrolled reach_of size_of commits before old) (tag : ℕ) (t : Tends tag commits later)
      (stay : (other : ℕ) → other ≢ tag → Contains before other → Contains after other) (same : (other : ℕ) → other ≢ tag → slice_index_or new other None ≡ slice_index_or old other None) where
    -- if the topic with the tag, when there is one, is tested, all are
    pub enrolled_changed : ((u : Topic A) → slice_index_or new tag None ≡ Some u → IsAsked reach_of size_of later after (query_of u.query) tag) → AreEnrolled reach_of size_of later after new
    enrolled_changed here = record { legal = t.legal; asked = λ number u is. by_number number u is (nat_eq number tag) refl }
      where
        by_number : (number : ℕ) (u : Topic A) → slice_index_or new number None ≡ Some u → (b : Bool) → nat_eq number tag ≡ b → IsAsked reach_of size_of later after (query_of u.query) number
        by_number number u is true e =
            let one : number ≡ tag = search (arith, e) in
            subst (λ n. IsAsked reach_of size_of later after (query_of u.query) n) (sym one) (here u (ap (λ n. slice_index_or new n None) (sym one) ∙ is))
        by_number number u is false e =
            let apart : number ≢ tag = λ one. let t : nat_eq number tag ≡ true = search (arith, one) in let c : true ≡ false = sym t ∙ e in absurd (cc) in
            asked_stays tag commits later before after (query_of u.query) number t stay apart (h.asked number u (sym (same number apart) ∙ is))

  -- the queries of topics with numbers below this one are tested
  abbrev pub AskedUpto : List (Write K) → List ℕ → List (Option (Topic A)) → ℕ → Type 0
  AskedUpto commits always slots n = (number : ℕ) (t : Topic A) → number < n → slice_index_or slots number None ≡ Some t → IsAsked reach_of size_of commits always (query_of t.query) number

  -- the next one is enrolled
  pub next_enrolled : (commits later : List (Write K)) (before after : List ℕ) (slots : List (Option (Topic A))) (n : ℕ) (t : Topic A) → AskedUpto commits before slots n → Tends n commits later → slice_index_or slots n None ≡ Some t
      → IsEnrolled reach_of size_of later (query_of t.query) n before after → AskedUpto later after slots (n + 1)
  next_enrolled commits later before after slots n t upto tends here enrolled number u within is = by_number (nat_eq number n) refl
    where
      by_number : (b : Bool) → nat_eq number n ≡ b → IsAsked reach_of size_of later after (query_of u.query) number
      by_number true e =
          let one : number ≡ n = search (arith, e) in
          let both : Some t ≡ Some u = sym here ∙ ap (λ m. slice_index_or slots m None) (sym one) ∙ is in
          let it : t ≡ u = cc in
          subst (λ m. IsAsked reach_of size_of later after (query_of u.query) m) (sym one) (subst (λ (x : Topic A). IsAsked reach_of size_of later after (query_of x.query) n) it enrolled.asked)
      by_number false e =
          let apart : number ≢ n = λ one. let t : nat_eq number n ≡ true = search (arith, one) in let c : true ≡ false = sym t ∙ e in absurd (cc) in
          let less : number < n = search (arith, within, e) in
          asked_stays n commits later before after (query_of u.query) number tends (λ other away has. enrolled.stay other has) apart (upto number u less is)

  -- there is no next topic
  pub next_nothing : (commits : List (Write K)) (always : List ℕ) (slots : List (Option (Topic A))) (n : ℕ) → AskedUpto commits always slots n → slice_index_or slots n None ≡ None → AskedUpto commits always slots (n + 1)
  next_nothing commits always slots n upto none number u within is = by_number (nat_eq number n) refl
    where
      by_number : (b : Bool) → nat_eq number n ≡ b → IsAsked reach_of size_of commits always (query_of u.query) number
      by_number true e =
          let one : number ≡ n = search (arith, e) in
          let both : None ≡ Some u = sym none ∙ ap (λ m. slice_index_or slots m None) (sym one) ∙ is in
          absurd (cc)
      by_number false e = let less : number < n = search (arith, within, e) in upto number u less is
