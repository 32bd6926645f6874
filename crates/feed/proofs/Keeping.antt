-- How a feed keeps its subscriptions while it changes.
use Rattle.std.proofs.Common.{◌≡◌, ◌≢◌, ◌⊎◌, ◌+◌, ◌<◌, ◌≤◌, ℕ, max, Bool, true, false, not, cond, List, [], ◌∷◌, ◌++◌, map, filter, Option, Some, None, refl, sym, ap, ◌∙◌, arith, subst, inl, inr}
use Rattle.std.specs.Prelude.{nat_eq, nat_le, option_map}
use Rattle.std.proofs.lemmas.List.{map-append}
use Rattle.key_class.specs.Queries.{Query, query_of}
use Rattle.world.specs.Serials.{Rise, member, without}
use Rattle.world.proofs.Serials.{member_within, push_other, push_same, rise_push, rise_within, rise_without, without_other, without_same}
use Rattle.feed.specs.declared.registration.Registration.{Registration}
use Rattle.feed.specs.Feeds.{given_upto, subscription_of, with_subscription, without_subscription}
use Rattle.feed.specs.Hearing.{ChangesHearing, TopicState, heard}
use Rattle.feed.specs.Holding.{IsHolding, IsListener, feed_state, serial_of, shown, shown_at}

not_same : (a b : ℕ) → nat_eq a b ≡ false → a ≢ b
not_same a b f e = let t : nat_eq a b ≡ true = search (arith, e) in let c : true ≡ false = sym t ∙ f in absurd (cc)

module _ {A : Type 0} where
  -- a subscription is that of the registration with the serial
  pub found_shown : (upto passed last serial : ℕ) (registrations : List (ℕ × Registration A)) → subscription_of (feed_state upto passed last registrations) serial ≡ option_map (shown upto passed) (member serial_of serial registrations)
  found_shown upto passed last serial [] = refl
  found_shown upto passed last serial (s ∷ registrations) = by_test (nat_eq s.0 serial) (found_shown upto passed last serial registrations)
    where
      by_test : (b : Bool) → subscription_of (feed_state upto passed last registrations) serial ≡ option_map (shown upto passed) (member serial_of serial registrations) → cond b (Some (shown upto passed s)) (subscription_of (feed_state upto passed last registrations) serial) ≡ option_map (shown upto passed) (cond b (Some s) (member serial_of serial registrations))
      by_test true rest = refl
      by_test false rest = rest

  pub none_shown : (upto passed last serial : ℕ) (registrations : List (ℕ × Registration A)) → member serial_of serial registrations ≡ None → subscription_of (feed_state upto passed last registrations) serial ≡ None
  none_shown upto passed last serial registrations none = found_shown upto passed last serial registrations ∙ ap (option_map (shown upto passed)) none

  pub one_shown : (upto passed last serial : ℕ) (registrations : List (ℕ × Registration A)) (x : ℕ × Registration A) → member serial_of serial registrations ≡ Some x → subscription_of (feed_state upto passed last registrations) serial ≡ Some (shown upto passed x)
  one_shown upto passed last serial registrations x found = found_shown upto passed last serial registrations ∙ ap (option_map (shown upto passed)) found

  -- without the registration that has a serial
  pub shown_without : (upto passed serial : ℕ) (registrations : List (ℕ × Registration A)) → map (shown upto passed) (without serial_of serial registrations) ≡ filter (λ s. not (nat_eq s.serial serial)) (map (shown upto passed) registrations)
  shown_without upto passed serial [] = refl
  shown_without upto passed serial (s ∷ registrations) = by_test (not (nat_eq s.0 serial)) (shown_without upto passed serial registrations)
    where
      by_test : (b : Bool) → map (shown upto passed) (without serial_of serial registrations) ≡ filter (λ s. not (nat_eq s.serial serial)) (map (shown upto passed) registrations) → map (shown upto passed) (cond b (s ∷ without serial_of serial registrations) (without serial_of serial registrations))
          ≡ cond b (shown upto passed s ∷ filter (λ s. not (nat_eq s.serial serial)) (map (shown upto passed) registrations)) (filter (λ s. not (nat_eq s.serial serial)) (map (shown upto passed) registrations))
      by_test true rest = ap (λ l. shown upto passed s ∷ l) rest
      by_test false rest = rest

  pub state_without : (upto passed last serial : ℕ) (registrations : List (ℕ × Registration A)) → feed_state upto passed last (without serial_of serial registrations) ≡ without_subscription (feed_state upto passed last registrations) serial
  state_without upto passed last serial registrations = ap (λ l. record { upto = upto; subscriptions = l; last = last }) (shown_without upto passed serial registrations)

  one_given : (upto passed last later : ℕ) (s : ℕ × Registration A) → s.0 ≤ last → upto ≤ later → shown later last s ≡ given_upto later (shown upto passed s)
  one_given upto passed last later s within further = ap (λ n. record { serial = s.0; query = (shown upto passed s).query; at = n }) at
    where
      by_test : (b : Bool) → max s.1.from later ≡ max (cond b (max s.1.from upto) s.1.from) later
      by_test true = omega (arith, further)
      by_test false = refl

      at : shown_at later last s ≡ max (shown_at upto passed s) later
      at =
          let t : nat_le s.0 last ≡ true = search (arith, within) in
          rw t (by_test (nat_le s.0 passed))

  -- once all are given what is due up to a later commit
  pub all_given : (upto passed above last later : ℕ) (registrations : List (ℕ × Registration A)) → Rise serial_of above last registrations → upto ≤ later
      → map (shown later last) registrations ≡ map (given_upto later) (map (shown upto passed) registrations)
  all_given upto passed above last later [] rise further = refl
  all_given upto passed above last later (s ∷ registrations) rise further =
      ap (λ x. x ∷ map (shown later last) registrations) (one_given upto passed last later s (rise_within serial_of s.0 last registrations rise.1) further)
      ∙ ap (λ l. given_upto later (shown upto passed s) ∷ l) (all_given upto passed s.0 last later registrations rise.1 further)

  -- with one more, which has missed what there was
  pub state_more : (upto passed last : ℕ) (registrations : List (ℕ × Registration A)) (s : Registration A) → passed ≤ last
      → feed_state upto passed (last + 1) (registrations ++ (last + 1, s) ∷ []) ≡ with_subscription (feed_state upto passed last registrations) (query_of s.query) s.from
  state_more upto passed last registrations s within =
      let later : nat_le (last + 1) passed ≡ false = search (arith, within) in
      let new : shown upto passed (last + 1, s) ≡ record { serial = last + 1; query = query_of s.query; at = s.from } = rw later refl in
      ap (λ l. record { upto = upto; subscriptions = l; last = last + 1 }) (map-append (shown upto passed) registrations ((last + 1, s) ∷ []) ∙ ap (λ x. map (shown upto passed) registrations ++ x ∷ []) new)

module _ {A : Type 0} where
  -- with no topics and no subscriptions
  pub holding_none : IsHolding {A = A} [] 0 0 []
  holding_none = record {
    rise = omega arith;
    passed_given = omega arith;
    listens = λ serial s is. absurd (cc);
    nobody_else = λ number serial. inl (by_place number serial);
  }
    where
      by_place : (number serial : ℕ) → heard {A = A} [] number serial ≡ None
      by_place number serial = refl

module _ {A : Type 0} (topics : List (Option (TopicState A))) (passed last : ℕ) (registrations : List (ℕ × Registration A)) (h : IsHolding topics passed last registrations) where
  -- a serial that was never given has no topic
  pub unheard : (number serial : ℕ) → last < serial → heard topics number serial ≡ None
  unheard number serial new = elim (h.nobody_else number serial) [
    | inl none ↦ none
    | inr l ↦ absurd (omega (arith, new, (member_within serial_of serial 0 last registrations l.registration h.rise l.is).1))
  ]

  -- a serial that isn't subscribed has no topic
  pub missing_unheard : (number serial : ℕ) → member serial_of serial registrations ≡ None → heard topics number serial ≡ None
  missing_unheard number serial none = elim (h.nobody_else number serial) [
    | inl n ↦ n
    | inr l ↦ let both : None ≡ Some l.registration = sym none ∙ l.is in absurd (cc)
  ]

  -- a subscription has no topic but its own
  pub unheard_elsewhere : (serial : ℕ) (s : ℕ × Registration A) → member serial_of serial registrations ≡ Some s → (number : ℕ) → number ≢ s.1.topic → heard topics number serial ≡ None
  unheard_elsewhere serial s is number apart = elim (h.nobody_else number serial) [
    | inl none ↦ none
    | inr l ↦
        let one : Some s ≡ Some l.registration = sym is ∙ l.is in
        let same : s ≡ l.registration = cc in
        absurd (apart (sym l.topic ∙ ap (λ (x : ℕ × Registration A). x.1.topic) (sym same)))
  ]

  -- while each listener has the topics that it had
  pub holding_same : (later : List (Option (TopicState A))) → ((number serial : ℕ) → heard later number serial ≡ heard topics number serial) → IsHolding later passed last registrations
  holding_same later same = record {
    rise = h.rise;
    passed_given = h.passed_given;
    listens = λ serial s is. same s.1.topic serial ∙ h.listens serial s is;
    nobody_else = λ number serial. elim (h.nobody_else number serial) [ inl none ↦ inl (same number serial ∙ none) | inr l ↦ inr l ];
  }

  -- once a subscription that never was opened came and went
  pub holding_restored : (mid later : List (Option (TopicState A))) (number serial : ℕ) (what : Option (Query A × ℕ)) → last < serial → ChangesHearing topics number serial what mid → ChangesHearing mid number serial None later
      → IsHolding later passed last registrations
  holding_restored mid later number serial what new came went = holding_same later (λ n s. by_number n s (nat_eq n number) refl (nat_eq s serial) refl)
    where
      by_number : (n s : ℕ) → (b : Bool) → nat_eq n number ≡ b → (c : Bool) → nat_eq s serial ≡ c → heard later n s ≡ heard topics n s
      by_number n s true e true f =
          let here : n ≡ number = search (arith, e) in
          let one : s ≡ serial = search (arith, f) in
          ap (λ m. heard later m s) here ∙ ap (heard later number) one ∙ went.changed ∙ sym (unheard n s (omega (arith, new, one)))
      by_number n s true e false f =
          let here : n ≡ number = search (arith, e) in
          let other : s ≢ serial = not_same s serial f in
          ap (λ m. heard later m s) here ∙ went.others s other ∙ came.others s other ∙ sym (ap (λ m. heard topics m s) here)
      by_number n s false e c f = let other : n ≢ number = not_same n number e in went.elsewhere n s other ∙ came.elsewhere n s other

  -- once a subscription is gone, and listens no longer
  pub holding_without : (later : List (Option (TopicState A))) (serial : ℕ) (gone : ℕ × Registration A) → member serial_of serial registrations ≡ Some gone → ChangesHearing topics gone.1.topic serial None later
      → IsHolding later passed last (without serial_of serial registrations)
  holding_without later serial gone was changes = record {
    rise = rise_without serial_of serial 0 last registrations h.rise;
    passed_given = h.passed_given;
    listens = λ other s is. stays other s is (nat_eq other serial) refl;
    nobody_else = λ number other. by_serial number other (nat_eq other serial) refl;
  }
    where
      -- others have the topics that they had
      kept : (number other : ℕ) → other ≢ serial → heard later number other ≡ heard topics number other
      kept number other apart = by_test (nat_eq number gone.1.topic) refl
        where
          by_test : (b : Bool) → nat_eq number gone.1.topic ≡ b → heard later number other ≡ heard topics number other
          by_test true e =
              let here : number ≡ gone.1.topic = search (arith, e) in
              ap (λ m. heard later m other) here ∙ changes.others other apart ∙ sym (ap (λ m. heard topics m other) here)
          by_test false e = changes.elsewhere number other (not_same number gone.1.topic e)

      stays : (other : ℕ) (s : ℕ × Registration A) → member serial_of other (without serial_of serial registrations) ≡ Some s → (b : Bool) → nat_eq other serial ≡ b → heard later s.1.topic other ≡ Some (query_of s.1.query, s.1.from)
      stays other s is true e =
          let same : other ≡ serial = search (arith, e) in
          let none : None ≡ Some s = sym (without_same serial_of serial registrations) ∙ ap (λ n. member serial_of n (without serial_of serial registrations)) (sym same) ∙ is in
          absurd (cc)
      stays other s is false e =
          let apart : other ≢ serial = not_same other serial e in
          kept s.1.topic other apart ∙ h.listens other s (sym (without_other serial_of serial other registrations apart) ∙ is)

      -- the subscription that is gone has no topic
      silent : (number : ℕ) → heard later number serial ≡ None
      silent number = by_test (nat_eq number gone.1.topic) refl
        where
          by_test : (b : Bool) → nat_eq number gone.1.topic ≡ b → heard later number serial ≡ None
          by_test true e = let here : number ≡ gone.1.topic = search (arith, e) in ap (λ m. heard later m serial) here ∙ changes.changed
          by_test false e = let apart : number ≢ gone.1.topic = not_same number gone.1.topic e in changes.elsewhere number serial apart ∙ unheard_elsewhere serial gone was number apart

      by_serial : (number other : ℕ) (b : Bool) → nat_eq other serial ≡ b → (heard later number other ≡ None) ⊎ IsListener (without serial_of serial registrations) number other
      by_serial number other true e = let same : other ≡ serial = search (arith, e) in inl (ap (heard later number) same ∙ silent number)
      by_serial number other false e =
          let apart : other ≢ serial = not_same other serial e in
          elim (h.nobody_else number other) [
            | inl none ↦ inl (kept number other apart ∙ none)
            | inr l ↦ inr (record { registration = l.registration; is = without_other serial_of serial other registrations apart ∙ l.is; topic = l.topic })
          ]

  -- with one more subscription, which listens
  pub holding_more : (later : List (Option (TopicState A))) (s : ℕ × Registration A) → s.0 ≡ last + 1 → ChangesHearing topics s.1.topic s.0 (Some (query_of s.1.query, s.1.from)) later → IsHolding later passed s.0 (registrations ++ s ∷ [])
  holding_more later s is changes = record {
    rise = rise_push serial_of 0 last registrations s (omega (arith, is)) h.rise;
    passed_given = omega (arith, is, h.passed_given);
    listens = λ serial x found. by_new serial x found (nat_eq serial s.0) refl;
    nobody_else = λ number serial. by_serial number serial (nat_eq serial s.0) refl;
  }
    where
      kept : (number other : ℕ) → other ≢ s.0 → heard later number other ≡ heard topics number other
      kept number other apart = by_test (nat_eq number s.1.topic) refl
        where
          by_test : (b : Bool) → nat_eq number s.1.topic ≡ b → heard later number other ≡ heard topics number other
          by_test true e =
              let here : number ≡ s.1.topic = search (arith, e) in
              ap (λ m. heard later m other) here ∙ changes.others other apart ∙ sym (ap (λ m. heard topics m other) here)
          by_test false e = changes.elsewhere number other (not_same number s.1.topic e)

      the_new : (serial : ℕ) → serial ≡ s.0 → member serial_of serial (registrations ++ s ∷ []) ≡ Some s
      the_new serial same = push_same serial_of serial 0 last s registrations (sym same) (omega (arith, is, same)) h.rise

      by_new : (serial : ℕ) (x : ℕ × Registration A) → member serial_of serial (registrations ++ s ∷ []) ≡ Some x → (b : Bool) → nat_eq serial s.0 ≡ b → heard later x.1.topic serial ≡ Some (query_of x.1.query, x.1.from)
      by_new serial x found true e =
          let same : serial ≡ s.0 = search (arith, e) in
          let one : Some s ≡ Some x = sym (the_new serial same) ∙ found in
          let it : s ≡ x = cc in
          subst (λ (y : ℕ × Registration A). heard later y.1.topic serial ≡ Some (query_of y.1.query, y.1.from)) it (ap (heard later s.1.topic) same ∙ changes.changed)
      by_new serial x found false e =
          let apart : serial ≢ s.0 = not_same serial s.0 e in
          kept x.1.topic serial apart ∙ h.listens serial x (sym (push_other serial_of serial s registrations apart) ∙ found)

      by_serial : (number serial : ℕ) (b : Bool) → nat_eq serial s.0 ≡ b → (heard later number serial ≡ None) ⊎ IsListener (registrations ++ s ∷ []) number serial
      by_serial number serial true e = by_topic (nat_eq number s.1.topic) refl
        where
          same : serial ≡ s.0
          same = search (arith, e)

          by_topic : (b : Bool) → nat_eq number s.1.topic ≡ b → (heard later number serial ≡ None) ⊎ IsListener (registrations ++ s ∷ []) number serial
          by_topic true f = let here : number ≡ s.1.topic = search (arith, f) in inr (record { registration = s; is = the_new serial same; topic = sym here })
          by_topic false f = inl (changes.elsewhere number serial (not_same number s.1.topic f) ∙ unheard number serial (omega (arith, same, is)))
      by_serial number serial false e =
          let apart : serial ≢ s.0 = not_same serial s.0 e in
          elim (h.nobody_else number serial) [
            | inl none ↦ inl (kept number serial apart ∙ none)
            | inr l ↦ inr (record { registration = l.registration; is = push_other serial_of serial s registrations apart ∙ l.is; topic = l.topic })
          ]

  -- once all were given what they had missed
  pub holding_passed : IsHolding topics last last registrations
  holding_passed = record { rise = h.rise; passed_given = omega arith; listens = h.listens; nobody_else = h.nobody_else }
