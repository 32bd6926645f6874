-- What closing a cursor gives.
use Rattle.std.specs.Prelude.{ℕ, Bool, List}
use Rattle.key_class.specs.Queries.{Query}
use Rattle.key_class.specs.Rules.{Rules, satisfies}
use Rattle.change_list.specs.declared.item.Item.{Item}
use Rattle.delivery_check.specs.Deliveries.{IsDelivered}
use Rattle.desk.specs.Seats.{Received, TakerState}
use Rattle.desk.specs.declared.ending.Ended.{Ended}
use Rattle.desk.specs.declared.ending.Ended.TheVariants as ended

-- if there is a receipt, this holds of it
abbrev pub IfReceipt : {K : Type 0} → Ended K → (Received K → Type 0) → Type 0
IfReceipt (ended.Receipt r) P = P r
IfReceipt ended.NoReceipt P = Unit {0}

-- the items taken for a query since its opening, or after the commit that it follows, are a delivery of the receipt's
-- commits
abbrev pub ShowsDelivery : {K A : Type 0} → Rules K A → Query A → Bool → ℕ → List (Item K) → Received K → Type 0
ShowsDelivery rules query follows opened taken r = IsDelivered follows (satisfies rules query) opened r.commits taken

-- the same, in terms of what a taker's client knows
abbrev pub ShowsTaken : {K A : Type 0} → Rules K A → TakerState K A → List (Item K) → Received K → Type 0
ShowsTaken rules taker taken r = ShowsDelivery rules taker.query taker.follows taker.opened taken r
