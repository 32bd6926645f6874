-- What is due to each subscription.
use Rattle.std.proofs.Common.{◌≡◌, ◌<◌, ◌≤◌, ℕ, max, Bool, true, false, cond, List, [], Option, Some, None, refl, sym, ap, ◌∙◌, arith}
use Rattle.std.specs.Prelude.{nat_le, option_map, option_to_list}
use Rattle.std.specs.Option.{option_map_or}
use Rattle.key_class.specs.Queries.{query_of}
use Rattle.key_class.specs.Rules.{Rules, satisfies}
use Rattle.change_list.specs.declared.item.Item.{Item}
use Rattle.change_list.specs.declared.write.Write.{Write}
use Rattle.change_list.specs.Changes.{changes, item_at}
use Rattle.change_list.proofs.Pushing.{changes_none}
use Rattle.world.specs.Serials.{member}
use Rattle.world.proofs.Serials.{member_serial}
use Rattle.feed.specs.declared.registration.Registration.{Registration}
use Rattle.feed.specs.Asking.{Gives, GivesInto, TellsCommit, due_at, due_to, due_upto}
use Rattle.feed.specs.Feeds.{items_under, subscription_of}
use Rattle.feed.specs.Hearing.{TopicState}
use Rattle.feed.specs.Holding.{IsHolding, feed_state, serial_of, shown, shown_at}
use Rattle.feed.specs.Numberings.{commit_of}
use Rattle.feed.specs.declared.numbering.Numbering.{Numbering}
use Rattle.feed.proofs.Advancing.{missed_by}
use Rattle.feed.proofs.Keeping.{found_shown, missing_unheard, none_shown, one_shown, unheard_elsewhere}

module _ {K A : Type 0} (rules : Rules K A) (numbering : Numbering) (commits : List (Write K)) (upto passed last : ℕ) (registrations : List (ℕ × Registration A)) where
  module _ (revision : ℕ) (further : upto ≤ revision) where
    -- what a revision that the feed hasn't gone over gives to a registration
    due_shown : (x : ℕ × Registration A) → due_at rules numbering commits revision (shown upto passed x) ≡ cond (nat_le x.1.from revision) (option_to_list (item_at (satisfies rules (query_of x.1.query)) commits (commit_of numbering revision))) []
    due_shown x = ap (λ b. cond b (option_to_list (item_at (satisfies rules (query_of x.1.query)) commits (commit_of numbering revision))) []) (by_test (nat_le x.0 passed))
      where
        by_from : (b : Bool) → nat_le x.1.from revision ≡ b → nat_le (max x.1.from upto) revision ≡ b
        by_from true e = let l : x.1.from ≤ revision = search (arith, e) in let m : max x.1.from upto ≤ revision = omega (arith, l, further) in search (arith, m)
        by_from false e = let l : revision < x.1.from = search (arith, e) in let m : revision < max x.1.from upto = omega (arith, l) in search (arith, m)

        by_test : (b : Bool) → nat_le (cond b (max x.1.from upto) x.1.from) revision ≡ nat_le x.1.from revision
        by_test true = by_from (nat_le x.1.from revision) refl
        by_test false = refl

    -- a serial that no registration has is given nothing
    pub none_due : (serial : ℕ) → member serial_of serial registrations ≡ None → option_map_or (due_at rules numbering commits revision) (subscription_of (feed_state upto passed last registrations) serial) [] ≡ []
    none_due serial none = ap (λ o. option_map_or (due_at rules numbering commits revision) o []) (none_shown upto passed last serial registrations none)

    found_due : (serial : ℕ) (x : ℕ × Registration A) → member serial_of serial registrations ≡ Some x → option_map_or (due_at rules numbering commits revision) (subscription_of (feed_state upto passed last registrations) serial) [] ≡ cond (nat_le x.1.from revision) (option_to_list (item_at (satisfies rules (query_of x.1.query)) commits (commit_of numbering revision))) []
    found_due serial x found = ap (λ o. option_map_or (due_at rules numbering commits revision) o []) (one_shown upto passed last serial registrations x found) ∙ due_shown x

  -- what is due to a subscription up to where the feed is
  abbrev pub missed : ℕ × Registration A → List (Item K)
  missed x = due_upto rules numbering commits upto (shown upto passed x)

  -- a subscription that has missed nothing
  none_missed : (x : ℕ × Registration A) → x.0 ≤ passed → missed x ≡ []
  none_missed x within =
      let e : nat_le x.0 passed ≡ true = search (arith, within) in
      let at : shown_at upto passed x ≡ max x.1.from upto = ap (λ b. cond b (max x.1.from upto) x.1.from) e in
      let same : max (shown_at upto passed x) upto ≡ shown_at upto passed x = omega (arith, at) in
      ap (λ n. changes (satisfies rules (query_of x.1.query)) (commit_of numbering (shown_at upto passed x)) (commit_of numbering n) commits) same
      ∙ changes_none (satisfies rules (query_of x.1.query)) (commit_of numbering (shown_at upto passed x)) commits

  -- a subscription that may have missed something
  pub all_missed : (x : ℕ × Registration A) → passed < x.0 → missed x ≡ changes (satisfies rules (query_of x.1.query)) (commit_of numbering x.1.from) (commit_of numbering (max x.1.from upto)) commits
  all_missed x behind =
      let e : nat_le x.0 passed ≡ false = search (arith, behind) in
      let at : shown_at upto passed x ≡ x.1.from = ap (λ b. cond b (max x.1.from upto) x.1.from) e in
      ap (λ n. changes (satisfies rules (query_of x.1.query)) (commit_of numbering n) (commit_of numbering (max n upto)) commits) at

  -- a serial up to `passed` has missed nothing
  pub nothing_missed : (serial : ℕ) → serial ≤ passed → missed_by missed registrations serial ≡ []
  nothing_missed serial within = by_member (member serial_of serial registrations) refl
    where
      by_member : (o : Option (ℕ × Registration A)) → member serial_of serial registrations ≡ o → option_map_or missed o [] ≡ []
      by_member None e = refl
      by_member (Some x) e = none_missed x (omega (arith, within, member_serial serial_of serial registrations x e))

  -- a subscription that was told what it missed was given what is due up to where the feed is
  pub missed_gives : (given : List (ℕ × Item K)) → ((serial : ℕ) → items_under serial given ≡ missed_by missed registrations serial) → Gives (due_upto rules numbering commits upto) (feed_state upto passed last registrations) given
  missed_gives given told serial =
      told serial ∙ shown_due (member serial_of serial registrations) ∙ ap (λ o. option_map_or (due_upto rules numbering commits upto) o []) (sym (found_shown upto passed last serial registrations))
    where
      shown_due : (o : Option (ℕ × Registration A)) → option_map_or missed o [] ≡ option_map_or (due_upto rules numbering commits upto) (option_map (shown upto passed) o) []
      shown_due None = refl
      shown_due (Some x) = refl

-- what a revision gives to subscriptions, by the queries that they listen to
module _ {K A : Type 0} (rules : Rules K A) (numbering : Numbering) (commits : List (Write K)) (topics : List (Option (TopicState A))) (upto passed last revision : ℕ) (registrations : List (ℕ × Registration A)) (h : IsHolding topics passed last registrations) (further : upto ≤ revision) (before after : List (ℕ × Item K)) (told : TellsCommit rules numbering commits topics revision before after) where
  pub commit_gives : GivesInto (due_at rules numbering commits revision) (feed_state upto passed last registrations) before after
  commit_gives = record { given = told.given; is = told.is; gives = λ serial. by_member serial (member serial_of serial registrations) refl }
    where
      by_member : (serial : ℕ) (o : Option (ℕ × Registration A)) → member serial_of serial registrations ≡ o → items_under serial told.given ≡ option_map_or (due_at rules numbering commits revision) (subscription_of (feed_state upto passed last registrations) serial) []
      by_member serial None e =
          told.gives 0 serial (λ other apart. missing_unheard topics passed last registrations h other serial e)
          ∙ ap (due_to rules numbering commits revision) (missing_unheard topics passed last registrations h 0 serial e)
          ∙ sym (none_due rules numbering commits upto passed last registrations revision further serial e)
      by_member serial (Some x) e =
          told.gives x.1.topic serial (λ other apart. unheard_elsewhere topics passed last registrations h serial x e other apart)
          ∙ ap (due_to rules numbering commits revision) (h.listens serial x e)
          ∙ sym (found_due rules numbering commits upto passed last registrations revision further serial x e)
