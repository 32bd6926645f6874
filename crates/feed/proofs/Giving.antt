-- What stands under the serials of a list.
use Rattle.std.proofs.Common.{◌≡◌, ◌≢◌, ◌⊎◌, ◌+◌, ◌<◌, ◌≤◌, ℕ, suc, max, Bool, true, false, cond, List, [], ◌∷◌, ◌++◌, length, map, filter, take, Option, Some, None, All, refl, sym, ap, ◌∙◌, arith, subst, inl, inr, append_assoc, get_or}
use Rattle.std.specs.Prelude.{AllPairs, Contains, nat_eq, nat_le, nat_lt, option_and_then, option_map, option_to_list}
use Rattle.std.specs.Option.{option_map_or}
use Rattle.std.specs.List.Sorted.{IsStrictlyIncreasing}
use Rattle.std.specs.List.{flat_map}
use Rattle.std.proofs.lemmas.Bool.{eq-eqb, ne_eqb}
use Rattle.std.proofs.lemmas.List.{append-nil, map-append, take_more}
use Rattle.std.proofs.lemmas.List.Elements.{All-head, All-tail, filter-append}
use Rattle.std.proofs.lemmas.List.Kept.{AllPairs-from_increasing}
use Rattle.key_class.specs.Queries.{Query}
use Rattle.key_class.specs.Rules.{Rules, satisfies}
use Rattle.change_list.specs.declared.item.Item.{Item}
use Rattle.change_list.specs.declared.write.Write.{Write}
use Rattle.change_list.specs.Changes.{changes, item_at}
use Rattle.change_list.proofs.Pushing.{changes_more, changes_none}
use Rattle.feed.specs.declared.change.Change.{Change}
use Rattle.feed.specs.Changing.{IsChangeOf}
use Rattle.feed.specs.Asking.{AreAllConcerned, Gives, GivesInto, TellsCommit, TellsTopic, due_at, due_to, due_upto, item_for, under}
use Rattle.feed.specs.Feeds.{FeedState, Subscription, items_under, subscription_of}
use Rattle.feed.specs.Hearing.{TopicState, heard, heard_of, topic_at}
use Rattle.feed.specs.Listening.{begin_of, told_after}
use Rattle.feed.specs.Numberings.{commit_of}
use Rattle.feed.specs.declared.numbering.Numbering.{Numbering}
use Rattle.feed.proofs.Members.{contains_cases}

module _ {K : Type 0} where
  pub items_under-append : (serial : ℕ) (a b : List (ℕ × Item K)) → items_under serial (a ++ b) ≡ items_under serial a ++ items_under serial b
  items_under-append serial a b =
      ap (map (λ g. g.1)) (filter-append (λ g. nat_eq g.0 serial) a b) ∙ map-append (λ (g : ℕ × Item K). g.1) (filter (λ g. nat_eq g.0 serial) a) (filter (λ g. nat_eq g.0 serial) b)

  pub under_same : (serial : ℕ) (items : List (Item K)) → items_under serial (under serial items) ≡ items
  under_same serial [] = refl
  under_same serial (i ∷ items) = rw (eq-eqb serial serial refl) (ap (λ l. i ∷ l) (under_same serial items))

  pub under_other : (serial other : ℕ) (items : List (Item K)) → (other ≡ serial → ⊥) → items_under serial (under other items) ≡ []
  under_other serial other [] apart = refl
  under_other serial other (i ∷ items) apart = rw (ne_eqb other serial apart) (under_other serial other items apart)

  module _ {A : Type 0} (feed : FeedState A) where
    pub gives_join : (first second both : Subscription A → List (Item K)) (a b : List (ℕ × Item K)) → Gives first feed a → Gives second feed b
        → ((s : Subscription A) → first s ++ second s ≡ both s) → Gives both feed (a ++ b)
    gives_join first second both a b p q e serial =
        items_under-append serial a b ∙ ap (λ l. l ++ items_under serial b) (p serial) ∙ ap (λ l. option_map_or first (subscription_of feed serial) [] ++ l) (q serial)
        ∙ by_subscription (subscription_of feed serial)
      where
        by_subscription : (o : Option (Subscription A)) → option_map_or first o [] ++ option_map_or second o [] ≡ option_map_or both o []
        by_subscription None = refl
        by_subscription (Some s) = e s

    pub into_join : (first second both : Subscription A → List (Item K)) (a b c : List (ℕ × Item K)) → GivesInto first feed a b → GivesInto second feed b c
        → ((s : Subscription A) → first s ++ second s ≡ both s) → GivesInto both feed a c
    into_join first second both a b c p q e = record {
      given = p.given ++ q.given;
      is = q.is ∙ ap (λ l. l ++ q.given) p.is ∙ append_assoc a p.given q.given;
      gives = gives_join first second both p.given q.given p.gives q.gives e;
    }

module _ {K A : Type 0} (rules : Rules K A) (numbering : Numbering) (commits : List (Write K)) where
  -- what is due up to a revision, and what the next one gives
  pub due_more : (revision : ℕ) (s : Subscription A) → numbering.oldest ≤ revision
      → due_upto rules numbering commits revision s ++ due_at rules numbering commits revision s ≡ due_upto rules numbering commits (revision + 1) s
  due_more revision s known = by_test (nat_le s.at revision) refl
    where
      by_test : (b : Bool) → nat_le s.at revision ≡ b
          → changes (satisfies rules s.query) (commit_of numbering s.at) (commit_of numbering (max s.at revision)) commits ++ cond b (option_to_list (item_at (satisfies rules s.query) commits (commit_of numbering revision))) [] ≡ changes (satisfies rules s.query) (commit_of numbering s.at) (commit_of numbering (max s.at (revision + 1))) commits
      by_test true e =
          let l : s.at ≤ revision = search (arith, e) in
          let m : commit_of numbering (max s.at revision) ≡ (commit_of numbering revision) = omega (arith, l) in
          let n : commit_of numbering (max s.at (revision + 1)) ≡ (commit_of numbering revision) + 1 = omega (arith, l, known) in
          ap (λ k. changes (satisfies rules s.query) (commit_of numbering s.at) k commits ++ option_to_list (item_at (satisfies rules s.query) commits (commit_of numbering revision))) m
          ∙ sym (changes_more (satisfies rules s.query) (commit_of numbering s.at) (commit_of numbering revision) commits (omega (arith, l)))
          ∙ ap (λ k. changes (satisfies rules s.query) (commit_of numbering s.at) k commits) (sym n)
      by_test false e =
          let l : revision < s.at = search (arith, e) in
          let m : commit_of numbering (max s.at revision) ≡ commit_of numbering (max s.at (revision + 1)) = omega (arith, l) in
          append-nil (changes (satisfies rules s.query) (commit_of numbering s.at) (commit_of numbering (max s.at revision)) commits) ∙ ap (λ k. changes (satisfies rules s.query) (commit_of numbering s.at) k commits) m

-- the changes of a query after a commit up to another, under a serial, after what there was
module _ {K : Type 0} (wanted : K → Bool) (serial from : ℕ) (commits : List (Write K)) (old : List (ℕ × Item K)) where
  pub passed_none : old ≡ old ++ under serial (changes wanted from from commits)
  passed_none = sym (ap (λ l. old ++ under serial l) (changes_none wanted from commits) ∙ append-nil old)

  under-append : (a b : List (Item K)) → under serial (a ++ b) ≡ under serial a ++ under serial b
  under-append a b = map-append (λ (i : Item K). (serial, i)) a b

  passed_more : (place : ℕ) (told more : List (ℕ × Item K)) → from ≤ place → told ≡ old ++ under serial (changes wanted from place commits)
      → more ≡ told ++ under serial (option_to_list (item_at wanted commits place)) → more ≡ old ++ under serial (changes wanted from (place + 1) commits)
  passed_more place told more l before is =
      let o = option_to_list (item_at wanted commits place) in
      is ∙ ap (λ t. t ++ under serial o) before ∙ append_assoc old (under serial (changes wanted from place commits)) (under serial o)
      ∙ ap (λ t. old ++ t) (sym (under-append (changes wanted from place commits) o) ∙ ap (under serial) (sym (changes_more wanted from place commits l)))

  pub passed_one : (place : ℕ) (told more : List (ℕ × Item K)) (item : Item K) → from ≤ place → told ≡ old ++ under serial (changes wanted from place commits)
      → more ≡ told ++ (serial, item) ∷ [] → item_at wanted commits place ≡ Some item → more ≡ old ++ under serial (changes wanted from (place + 1) commits)
  passed_one place told more item l before is at = passed_more place told more l before (is ∙ ap (λ o. told ++ under serial (option_to_list o)) (sym at))

  pub passed_other : (place : ℕ) (told more : List (ℕ × Item K)) → from ≤ place → told ≡ old ++ under serial (changes wanted from place commits)
      → more ≡ told → item_at wanted commits place ≡ None → more ≡ old ++ under serial (changes wanted from (place + 1) commits)
  passed_other place told more l before is at = passed_more place told more l before (is ∙ sym (append-nil told) ∙ ap (λ o. told ++ under serial (option_to_list o)) (sym at))

  pub passed_all : (place upto : ℕ) (told : List (ℕ × Item K)) → from ≤ place → place ≤ max from upto → upto ≤ place → told ≡ old ++ under serial (changes wanted from place commits)
      → told ≡ old ++ under serial (changes wanted from (max from upto) commits)
  passed_all place upto told l h e is = is ∙ ap (λ n. old ++ under serial (changes wanted from n commits)) (let same : place ≡ max from upto = omega (arith, l, h, e) in same)

-- lists for rising numbers, at most one of which isn't empty
module _ {X : Type 0} (part : ℕ → List X) (number : ℕ) (elsewhere : (other : ℕ) → other ≢ number → part other ≡ []) where
  -- if that one isn't among them, or is empty
  flat_none : (numbers : List ℕ) → part number ≡ [] → flat_map part numbers ≡ []
  flat_none [] none = refl
  flat_none (n ∷ numbers) none = ap (λ l. l ++ flat_map part numbers) (by_test (nat_eq n number) refl) ∙ flat_none numbers none
    where
      by_test : (b : Bool) → nat_eq n number ≡ b → part n ≡ []
      by_test true e = let same : n ≡ number = search (arith, e) in ap part same ∙ none
      by_test false e = elsewhere n (λ s. let t : nat_eq n number ≡ true = search (arith, s) in let f : true ≡ false = sym t ∙ e in absurd (cc))

  flat_above : (numbers : List ℕ) → All (λ n. number < n) numbers → flat_map part numbers ≡ []
  flat_above [] all = refl
  flat_above (n ∷ numbers) all =
      let less : number < n = All-head (λ m. number < m) n numbers all in
      ap (λ l. l ++ flat_map part numbers) (elsewhere n (λ e. omega (arith, e, less))) ∙ flat_above numbers (All-tail (λ m. number < m) n numbers all)

  pairs_head : (n : ℕ) (numbers : List ℕ) → AllPairs (λ x y. x < y) (n ∷ numbers) → All (λ m. n < m) numbers
  pairs_head n numbers pairs k d l = pairs 0 (suc k) d (omega arith) (omega (arith, l))

  pairs_tail : (n : ℕ) (numbers : List ℕ) → AllPairs (λ x y. x < y) (n ∷ numbers) → AllPairs (λ x y. x < y) numbers
  pairs_tail n numbers pairs i j d l h = pairs (suc i) (suc j) d (omega (arith, l)) (omega (arith, h))

  flat_once : (numbers : List ℕ) → AllPairs (λ x y. x < y) numbers → Contains numbers number → flat_map part numbers ≡ part number
  flat_once [] pairs c = absurd (omega (arith, c.1))
  flat_once (n ∷ numbers) pairs c =
      contains_cases n number numbers c
      (λ (e : n ≡ number).
      ap (λ l. part n ++ l) (flat_above numbers (subst (λ m. All (λ k. m < k) numbers) e (pairs_head n numbers pairs)))
      ∙ append-nil (part n)
      ∙ ap part e)
      (λ (t : Contains numbers number).
      let less : n < number = subst (λ m. n < m) t.2 (pairs_head n numbers pairs t.0 number t.1) in
      ap (λ l. l ++ flat_map part numbers) (elsewhere n (λ e. omega (arith, e, less)))
      ∙ flat_once numbers (pairs_tail n numbers pairs) t)

  pub flat_single : (numbers : List ℕ) → IsStrictlyIncreasing numbers → (part number ≡ []) ⊎ Contains numbers number → flat_map part numbers ≡ part number
  flat_single numbers rising c = elim c [
    | inl none ↦ flat_none numbers none ∙ sym none
    | inr among ↦ flat_once numbers (AllPairs-from_increasing numbers rising) among
  ]

-- what a revision gives to a listener of a query
module _ {K A : Type 0} (rules : Rules K A) (numbering : Numbering) (commits : List (Write K)) (revision : ℕ) (query : Query A) where
  none_due : (b : Bool) (o : Option (Item K)) → o ≡ None → cond b (option_to_list o) [] ≡ []
  none_due true o e = ap option_to_list e
  none_due false o e = refl

  -- nothing, if its commit has no item for the query
  pub nothing_due : (begin : Option ℕ) → item_for rules commits query (commit_of numbering revision) ≡ None → due_to rules numbering commits revision (option_map (λ from. (query, from)) begin) ≡ []
  nothing_due None none = refl
  nothing_due (Some from) none = none_due (nat_le from revision) (item_for rules commits query (commit_of numbering revision)) none

  -- the item, if it has one and comes later
  pub listener_due : (number : ℕ) → number ≡ revision + 1 → (item : Item K) (begin : Option ℕ) → item_for rules commits query (commit_of numbering revision) ≡ Some item → told_after number item begin ≡ due_to rules numbering commits revision (option_map (λ from. (query, from)) begin)
  listener_due number next item None is = refl
  listener_due number next item (Some from) is = by_test (nat_le from revision) refl
    where
      by_test : (b : Bool) → nat_le from revision ≡ b → told_after number item (Some from) ≡ cond b (option_to_list (item_for rules commits query (commit_of numbering revision))) []
      by_test true e =
          let before : from ≤ revision = search (arith, e) in
          let t : nat_lt from number ≡ true = search (arith, before, next) in
          rw t (sym (ap option_to_list is))
      by_test false e =
          let later : revision < from = search (arith, e) in
          let t : nat_lt from number ≡ false = search (arith, later, next) in
          rw t refl

-- what the topics of a revision were told, one after the other
module _ {K A : Type 0} (rules : Rules K A) (numbering : Numbering) (commits : List (Write K)) (topics : List (Option (TopicState A))) (revision : ℕ) where
  -- what a listener is given by the topic with a number
  abbrev pub given_by : ℕ → ℕ → List (Item K)
  given_by serial number = due_to rules numbering commits revision (heard topics number serial)

  -- what was appended to a list tells each listener what these topics give
  pub record TellsThose (numbers : List ℕ) (before after : List (ℕ × Item K)) : Type 0 where
    pub given : List (ℕ × Item K)
    pub is : after ≡ before ++ given
    pub gives : (serial : ℕ) → items_under serial given ≡ flat_map (given_by serial) numbers

  pub those_none : (before : List (ℕ × Item K)) → TellsThose [] before before
  those_none before = record { given = []; is = sym (append-nil before); gives = λ serial. refl }

  flat_push : (f : ℕ → List (Item K)) (numbers : List ℕ) (n : ℕ) → flat_map f (numbers ++ n ∷ []) ≡ flat_map f numbers ++ f n
  flat_push f [] n = append-nil (f n)
  flat_push f (m ∷ numbers) n = ap (λ l. f m ++ l) (flat_push f numbers n) ∙ sym (append_assoc (f m) (flat_map f numbers) (f n))

  pub those_more : (numbers : List ℕ) (change : Change K) → IsChangeOf commits (commit_of numbering revision) change → (i : ℕ) → i < length numbers → (before mid after : List (ℕ × Item K)) → TellsThose (take i numbers) before mid
      → TellsTopic rules topics (get_or numbers i 0) change revision mid after → TellsThose (take (i + 1) numbers) before after
  those_more numbers change of i within before mid after told next = record {
    given = told.given ++ next.given;
    is = next.is ∙ ap (λ l. l ++ next.given) told.is ∙ append_assoc before told.given next.given;
    gives = λ serial.
        items_under-append serial told.given next.given
        ∙ ap (λ l. l ++ items_under serial next.given) (told.gives serial)
        ∙ ap (λ l. flat_map (given_by serial) (take i numbers) ++ l) (next.gives numbering commits of serial)
        ∙ sym (ap (flat_map (given_by serial)) (take_more numbers i 0 within) ∙ flat_push (given_by serial) (take i numbers) (get_or numbers i 0));
  }

  -- a topic that isn't concerned gives nothing
  not_concerned : (number serial : ℕ) (numbers : List ℕ) → AreAllConcerned rules commits topics (commit_of numbering revision) numbers → (given_by serial number ≡ []) ⊎ Contains numbers number
  not_concerned number serial numbers all = by_topic (topic_at topics number) refl
    where
      by_topic : (o : Option (TopicState A)) → topic_at topics number ≡ o → (given_by serial number ≡ []) ⊎ Contains numbers number
      by_topic None e = inl (ap (λ t. due_to rules numbering commits revision (option_and_then (heard_of serial) t)) e)
      by_topic (Some t) e = elim (all number t.query (ap (option_map (λ (s : TopicState A). s.query)) e)) [
        | inl none ↦ inl (ap (λ o. due_to rules numbering commits revision (option_and_then (heard_of serial) o)) e ∙ nothing_due rules numbering commits revision t.query (begin_of t.listeners serial) none)
        | inr c ↦ inr c
      ]

  -- all topics that a revision concerns were told
  pub those_all : (numbers : List ℕ) (before after : List (ℕ × Item K)) → AreAllConcerned rules commits topics (commit_of numbering revision) numbers → IsStrictlyIncreasing numbers → TellsThose numbers before after → TellsCommit rules numbering commits topics revision before after
  those_all numbers before after all rising told = record {
    given = told.given;
    is = told.is;
    gives = λ number serial alone.
        told.gives serial
        ∙ flat_single (given_by serial) number (λ other apart. ap (due_to rules numbering commits revision) (alone other apart)) numbers rising (not_concerned number serial numbers all);
  }
