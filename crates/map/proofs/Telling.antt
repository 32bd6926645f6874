-- What a feed of a map tells, by what the feed of its store gives.
use Rattle.std.proofs.Common.{◌≡◌, ◌+◌, ◌-◌, ◌<◌, ◌≤◌, ℕ, zero, suc, get_or, max, min, Bool, true, false, cond, List, [], ◌∷◌, ◌++◌, length, map, Option, Some, None, refl, sym, ap, ◌∙◌, arith, subst}
use Rattle.std.specs.Prelude.{find, nat_eq, nat_lt, IsTrue}
use Rattle.std.specs.List.{list_any}
use Rattle.key_class.specs.Rules.{Rules, satisfies}
use Rattle.change_list.specs.declared.item.Item.{Item}
use Rattle.change_list.specs.declared.write.Write.{Write}
use Rattle.change_list.specs.Changes.{changes}
use Rattle.change_list.specs.Listings.{AreChanges}
use Rattle.feed.specs.Feeds.{AdvancesBy, FeedState, IsCompacted, IsGivenUpto, Subscription, acknowledged, in_commits, items_under, needs_before, subscription_of}
use Rattle.feed.specs.Numberings.{MayNumber, commit_of, last_revision}
use Rattle.feed.specs.declared.numbering.Numbering.{Numbering}
use Rattle.revisions.specs.declared.item.MapItem.{MapItem}
use Rattle.revisions.specs.Maps.{MapState, revision_of}
use Rattle.map.specs.Generations.{IsMapList, map_of}
use Rattle.map.specs.Items.{AreWithin, map_item, number_of}
use Rattle.map.specs.MapFeeds.{IsAhead, IsBehind, IsToldUpto, Tells, told_under}
use Rattle.map.proofs.Faithful.{revision_is}
use Rattle.map.proofs.Itemizing.{items_between_are}
use Rattle.map.proofs.Reading.{changes_within}

module _ {K : Type 0} where
  -- where the items under each serial are of commits up to one, all are
  pub within_all : (n : ℕ) (given : List (ℕ × Item K)) → ((serial : ℕ) → AreWithin {K = K} n (items_under serial given)) → AreWithin {K = K} n (map (λ g. g.1) given)
  within_all n [] all = tt
  within_all n (g ∷ gs) all = (own refl, within_all n gs (λ serial. by_test serial (nat_eq g.0 serial) refl (all serial)))
    where
      own : g.0 ≡ g.0 → number_of g.1 ≤ n
      own same =
          let t : nat_eq g.0 g.0 ≡ true = search arith in
          let under = all g.0 in
          let first : AreWithin {K = K} n (g.1 ∷ items_under g.0 gs) = rw t at under in
          first.0

      by_test : (serial : ℕ) (b : Bool) → nat_eq g.0 serial ≡ b → AreWithin {K = K} n (items_under serial (g ∷ gs)) → AreWithin {K = K} n (items_under serial gs)
      by_test serial true e under = let more : AreWithin {K = K} n (g.1 ∷ items_under serial gs) = rw e at under in more.1
      by_test serial false e under = rw e at under

  -- where all items are of commits up to one, each is
  pub each_due : (n : ℕ) (given : List (ℕ × Item K)) (place : ℕ) (due : ℕ × Item K) → AreWithin {K = K} n (map (λ g. g.1) given) → place < length given → due ≡ get_or given place due → number_of due.1 ≤ n
  each_due n [] place due all within at = absurd (omega (arith, within))
  each_due n (g ∷ gs) zero due all within at = subst (λ d. number_of d.1 ≤ n) (sym at) all.0
  each_due n (g ∷ gs) (suc place) due all within at = each_due n gs place due all.1 (omega (arith, within)) at

  -- the items under a serial, as the map's
  pub told_are : (f : Item K → MapItem K) (serial : ℕ) (given : List (ℕ × Item K)) → told_under serial (map (λ g. (g.0, f g.1)) given) ≡ map f (items_under serial given)
  told_are f serial [] = refl
  told_are f serial (g ∷ gs) = by_test (nat_eq g.0 serial) refl (told_are f serial gs)
    where
      by_test : (b : Bool) → nat_eq g.0 serial ≡ b → told_under serial (map (λ g. (g.0, f g.1)) gs) ≡ map f (items_under serial gs) → told_under serial (map (λ g. (g.0, f g.1)) (g ∷ gs)) ≡ map f (items_under serial (g ∷ gs))
      by_test true e rest = rw e (ap (λ l. f g.1 ∷ l) rest)
      by_test false e rest = rw e rest

-- a subscription that needs no changes from before a revision
pub known_at : {A : Type 0} (oldest : ℕ) (subscriptions : List (Subscription A)) → list_any (needs_before oldest) subscriptions ≡ false
    → (serial : ℕ) (s : Subscription A) → find (λ s. nat_eq s.serial serial) subscriptions ≡ Some s → oldest ≤ s.at
known_at oldest [] none serial s found = absurd (cc)
known_at oldest (x ∷ xs) none serial s found = by_need (λ later. known_at oldest xs later serial s) (nat_lt x.at oldest) refl (nat_eq x.serial serial) refl
  where
    by_need : (list_any (needs_before oldest) xs ≡ false → find (λ s. nat_eq s.serial serial) xs ≡ Some s → oldest ≤ s.at) → (b : Bool) → nat_lt x.at oldest ≡ b → (c : Bool) → nat_eq x.serial serial ≡ c → oldest ≤ s.at
    by_need rest true e c f = let t : true ≡ false = rw e at none in absurd (cc)
    by_need rest false e true f =
        let one : Some x ≡ Some s = rw f at found in
        let is : x.at ≡ s.at = cc in
        let l : oldest ≤ x.at = search (arith, e) in
        omega (arith, l, is)
    by_need rest false e false f = rest (rw e at none) (rw f at found)

module _ {K A : Type 0} (rules : Rules K A) (numbering : Numbering) (commits : List (Write K)) (list : IsMapList numbering.begun commits) where
  abbrev as_told : Item K → MapItem K
  as_told = map_item numbering.oldest numbering.begun commits

  -- an item under a serial, as the map's
  abbrev pub as_due : ℕ × Item K → ℕ × MapItem K
  as_due g = (g.0, as_told g.1)

  -- the map ends where its store does
  pub ahead_is : (feed : FeedState A) (map : MapState K) → map_of numbering.oldest numbering.begun commits ≡ map
      → (last_revision numbering commits < feed.upto → IsAhead feed map) × (IsAhead feed map → last_revision numbering commits < feed.upto)
  ahead_is feed map is =
      let last : revision_of map ≡ last_revision numbering commits = ap revision_of (sym is) ∙ revision_is numbering.oldest numbering.begun commits list in
      (λ l. omega (arith, l, last), λ l. omega (arith, l, last))

  -- and begins where it is numbered from
  pub behind_is : (feed : FeedState A) (map : MapState K) → map_of numbering.oldest numbering.begun commits ≡ map
      → (IsCompacted numbering commits feed → IsBehind feed map) × (IsBehind feed map → IsCompacted numbering commits feed)
  behind_is feed map is =
      let last : revision_of map ≡ last_revision numbering commits = ap revision_of (sym is) ∙ revision_is numbering.oldest numbering.begun commits list in
      let oldest : numbering.oldest ≡ map.oldest = ap (λ (m : MapState K). m.oldest) is in (
        λ c. record { upto = omega (arith, c.upto, last); needed = subst (λ n. IsTrue (list_any (needs_before n) feed.subscriptions)) oldest c.needed },
        λ b. record { upto = omega (arith, b.upto, last); needed = subst (λ n. IsTrue (list_any (needs_before n) feed.subscriptions)) (sym oldest) b.needed },
      )

  -- a feed that may go on has no subscription that needs forgotten changes
  pub needed_none : (feed : FeedState A) → (last_revision numbering commits < feed.upto → ⊥) → (IsCompacted numbering commits feed → ⊥) → list_any (needs_before numbering.oldest) feed.subscriptions ≡ false
  needed_none feed not_ahead not_compacted = by_need (list_any (needs_before numbering.oldest) feed.subscriptions) refl (nat_lt (last_revision numbering commits) feed.upto) refl
    where
      by_need : (b : Bool) → list_any (needs_before numbering.oldest) feed.subscriptions ≡ b → (c : Bool) → nat_lt (last_revision numbering commits) feed.upto ≡ c → list_any (needs_before numbering.oldest) feed.subscriptions ≡ false
      by_need false e c f = e
      by_need true e true f = absurd (not_ahead (search (arith, f)))
      by_need true e false f = absurd (not_compacted (record { upto = search (arith, f); needed = e }))

  -- what a subscription is given, as the map's items
  is_told : (n : ℕ) (s : Subscription A) (items : List (Item K)) → numbering.oldest ≤ s.at → numbering.oldest ≤ n → n ≤ last_revision numbering commits
      → IsGivenUpto rules commits (commit_of numbering n) (in_commits numbering s) items
      → IsToldUpto rules (map_of numbering.oldest numbering.begun commits) n s (map as_told items)
  is_told n s items known reached within given =
      let last = revision_is numbering.oldest numbering.begun commits list in
      record {
        items = λ l.
            let c = given.changes (omega (arith, l, known)) in
            record {
              known = known;
              from_before = l;
              within = omega (arith, within, last);
              is = ap (map as_told) c.is ∙ items_between_are (satisfies rules s.query) numbering.oldest numbering.begun commits list s.at n known l c.within;
            };
        later = λ l. ap (map as_told) (given.later (omega (arith, l, known, reached)));
      }

  -- the items of a subscription are those of commits
  items_within : (n : ℕ) (s : Subscription A) (items : List (Item K)) → IsGivenUpto rules commits n s items → AreWithin (length commits) items
  items_within n s items given = by_order (nat_lt n s.at) refl
    where
      by_order : (b : Bool) → nat_lt n s.at ≡ b → AreWithin (length commits) items
      by_order true e = let l : n < s.at = search (arith, e) in subst (λ is. AreWithin (length commits) is) (sym (given.later l)) tt
      by_order false e =
          let l : s.at ≤ n = search (arith, e) in
          let c = given.changes l in
          let up : s.at + (n - s.at) ≡ n = omega (arith, l) in
          subst (λ is. AreWithin (length commits) is) (sym c.is)
          (subst (λ m. AreWithin (length commits) (changes (satisfies rules s.query) s.at m commits)) up (changes_within (satisfies rules s.query) commits (n - s.at) s.at (omega (arith, c.within, up))))

  module _ (old : FeedState A) (most : ℕ) (given : List (ℕ × Item K)) (upto : ℕ) (by : AdvancesBy rules numbering old commits most given (acknowledged upto old)) where
    -- all that is given is of commits
    pub given_within : AreWithin {K = K} (length commits) (map (λ g. g.1) given)
    given_within = within_all (length commits) given (λ serial. by_subscription serial (subscription_of old serial) refl)
      where
        by_subscription : (serial : ℕ) (o : Option (Subscription A)) → subscription_of old serial ≡ o → AreWithin {K = K} (length commits) (items_under serial given)
        by_subscription serial (Some s) e = items_within (commit_of numbering upto) (in_commits numbering s) (items_under serial given) (by.each serial s e)
        by_subscription serial None e = subst (λ is. AreWithin {K = K} (length commits) is) (sym (by.no_others serial e)) tt

    -- and told as the map's items it is what is due
    pub tells : MayNumber numbering commits → list_any (needs_before numbering.oldest) old.subscriptions ≡ false
        → Tells rules old (map_of numbering.oldest numbering.begun commits) most (map (λ g. (g.0, as_told g.1)) given) upto
    tells may none =
        let last = revision_is numbering.oldest numbering.begun commits list in
        let reached : numbering.oldest ≤ upto = omega (arith, by.upto, may.begun) in
        let within : upto ≤ last_revision numbering commits = omega (arith, by.upto) in
        record {
          reached = omega (arith, by.upto, last);
          each = λ serial s found.
              subst (λ is. IsToldUpto rules (map_of numbering.oldest numbering.begun commits) upto s is) (sym (told_are as_told serial given))
              (is_told upto s (items_under serial given) (known_at numbering.oldest old.subscriptions none serial s found) reached within (by.each serial s found));
          no_others = λ serial none'. told_are as_told serial given ∙ ap (map as_told) (by.no_others serial none');
        }
