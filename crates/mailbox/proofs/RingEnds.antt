-- A pop that finds no item.
use Rattle.std.proofs.Common.{◌≡◌, ◌<◌, [], length, Result, Err, IsOk, None, arith}
use Rattle.std.proofs.lemmas.List.{nil_from_length}
use Rattle.std.specs.declared.alloc.Global.{Global}
use Rattle.rtrb.specs.declared.AnyItems.{AnyItems}
use Rattle.rtrb.specs.declared.consumer.Consumer.{Consumer}
use Rattle.rtrb.specs.Ring.{received, known_items}
use Rattle.change_list.specs.declared.item.Item.{Item}
use Rattle.mailbox.specs.RingEnds.{TakesNext, shown_by}

module _ {K E : Type 0} (old new : Consumer (Item K) Global AnyItems) where
  -- it takes none, since an item that had been seen would have come out
  pub takes_none : (popped : Result (Item K) E) (why : E) → popped ≡ Err why → (0 < length (known_items old) → IsOk popped)
      → (received new ≡ received old) × (known_items new ≡ []) → TakesNext (shown_by old) None (shown_by new)
  takes_none popped why is succeeds empty =
      let none_seen : (0 < length (known_items old)) → ⊥ = λ some. let no = rw is at succeeds some in absurd (cc) in
      let none : length (known_items old) ≡ 0 = omega (arith, none_seen) in
      (empty.0, nil_from_length (known_items old) none, empty.1)
