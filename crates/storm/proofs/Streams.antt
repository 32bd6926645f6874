-- Items that are enqueued on streams, one after the other.
use Rattle.std.proofs.Common.{append_assoc, append-nil, drop, get_or, ◌≡◌, ◌≢◌, ◌∙◌, ◌<◌, ◌≤◌, ◌+◌, ℕ, Bool, true, false, List, [], ◌∷◌, ◌++◌, length, Option, Some, None, refl, sym, ap, subst, arith}
use Rattle.std.specs.Prelude.{nat_eq}
use Rattle.std.proofs.lemmas.List.{drop_more}
use Rattle.change_list.specs.declared.item.Item.{Item}
use Rattle.interval_class.specs.declared.interval.Interval.{Interval}
use Rattle.delivery_check.proofs.Cuts.{drop_past}
use Rattle.feed.specs.Feeds.{items_under}
use Rattle.storm.specs.Streams.{Enqueues, EnqueuesOne, MayBeDueMore, stream_at}
use Rattle.storm.specs.declared.publishing.Stream.{Stream}

not_same : (a b : ℕ) → nat_eq a b ≡ false → a ≢ b
not_same a b f e = let t : nat_eq a b ≡ true = search (arith, e) in let c : true ≡ false = sym t ∙ f in absurd (cc)

none_due : (o : Option Stream) → MayBeDueMore o [] o
none_due None = tt
none_due (Some old) = record { number = refl; place = refl; due = sym (append-nil old.due.items) }

-- some items, and then others
due_on : (a b c : Option Stream) (first rest : List (Item Interval)) → MayBeDueMore a first b → MayBeDueMore b rest c → MayBeDueMore a (first ++ rest) c
due_on None None None first rest p q = tt
due_on None None (Some c) first rest p q = absurd q
due_on None (Some b) c first rest p q = absurd p
due_on (Some a) None c first rest p q = absurd p
due_on (Some a) (Some b) None first rest p q = absurd q
due_on (Some a) (Some b) (Some c) first rest p q = record {
  number = q.number ∙ p.number;
  place = q.place ∙ p.place;
  due = q.due ∙ ap (λ l. l ++ rest) p.due ∙ append_assoc a.due.items first rest;
}

-- one item, and then others
one_more : (serial : ℕ) (item : Item Interval) (rest : List (ℕ × Item Interval)) (old new last : List (ℕ × Stream)) → EnqueuesOne serial item old new → Enqueues rest new last → Enqueues ((serial, item) ∷ rest) old last
one_more serial item rest old new last one others other = by_test (nat_eq serial other) refl
  where
    by_test : (b : Bool) → nat_eq serial other ≡ b → MayBeDueMore (stream_at old other) (items_under other ((serial, item) ∷ rest)) (stream_at last other)
    by_test true e =
        let same : serial ≡ other = search (arith, e) in
        rw e (due_on (stream_at old other) (stream_at new other) (stream_at last other) (item ∷ []) (items_under other rest)
        (subst (λ n. MayBeDueMore (stream_at old n) (item ∷ []) (stream_at new n)) same one.here) (others other))
    by_test false e =
        rw e (subst (λ o. MayBeDueMore o (items_under other rest) (stream_at last other)) (one.others other (λ is. not_same serial other e (sym is))) (others other))

module _ (delivered : List (ℕ × Item Interval)) (place : ℕ) (first now : List (ℕ × Stream)) where
  -- once the items that are left are enqueued, all are
  abbrev pub EnqueuesWithRest : Type 0
  EnqueuesWithRest = (last : List (ℕ × Stream)) → Enqueues (drop place delivered) now last → Enqueues delivered first last

  pub rest_enqueued : length delivered ≤ place → EnqueuesWithRest → Enqueues delivered first now
  rest_enqueued over before =
      before now (λ serial. subst (λ l. MayBeDueMore (stream_at now serial) (items_under serial l) (stream_at now serial)) (sym (drop_past delivered place over)) (none_due (stream_at now serial)))

  pub one_enqueued : (item : ℕ × Item Interval) (new : List (ℕ × Stream)) → place < length delivered → item ≡ get_or delivered place item → EnqueuesOne item.0 item.1 now new → EnqueuesWithRest
      → (last : List (ℕ × Stream)) → Enqueues (drop (place + 1) delivered) new last → Enqueues delivered first last
  one_enqueued item new there is one before last left =
      let left_with : drop place delivered ≡ (item.0, item.1) ∷ drop (place + 1) delivered = drop_more delivered place item there ∙ ap (λ (o : ℕ × Item Interval). o ∷ drop (place + 1) delivered) (sym is) in
      before last (subst (λ l. Enqueues l now last) (sym left_with) (one_more item.0 item.1 (drop (place + 1) delivered) now new last one left))
