-- Threads may read what a handle owns at once, while it is lent, whatever its kind and class.
use base.Fml.{Lft, ftrue}
use base.Shift.{Keyless}
use denote.RawPtr.{Ptr, block_ptr, null_ptr, in_block, block_of, count_of}
use denote.Enum.Declared as variants
use denote.Struct.Owning.{shape, fields, to}
use denote.Param.Send.{IsSync, AllSync, sendable, struct_sync, enum_sync, recorded_sync}
use Rattle.std.specs.Prelude.{Option, Some, None}
use Rattle.std.proofs.Crossing.{crosses}
use Rattle.interval_class.proofs.interval.Interval.TheSendSync as interval
use Rattle.interval_class.proofs.atom.Atom.TheSendSync as interval_atom
use Rattle.interval_class.proofs.block.IntervalBlock.TheSendSync as interval_block
use Rattle.box_class.proofs.boxes.BoxKey.TheSendSync as box
use Rattle.box_class.proofs.atom.Atom.TheSendSync as box_atom
use Rattle.box_class.proofs.block.BoxBlock.TheSendSync as box_block
use Rattle.set_class.proofs.elements.Elements.TheSendSync as set
use Rattle.set_class.proofs.atom.Atom.TheSendSync as set_atom
use Rattle.set_class.proofs.block.SetBlock.TheSendSync as set_block
use Rattle.key_class.proofs.pred.Pred.TheLaws.TheKnot as pred
use Rattle.libgist.specs.contracts.held.AnyFeed as AnyFeed
use Rattle.libgist.specs.contracts.held.AnyMap as AnyMap
use Rattle.libgist.specs.contracts.held.AnyMapFeed as AnyMapFeed
use Rattle.libgist.specs.contracts.held.AnyMapSnapshot as AnyMapSnapshot
use Rattle.libgist.specs.contracts.held.AnyQuery as AnyQuery
use Rattle.libgist.specs.contracts.held.AnySnapshot as AnySnapshot
use Rattle.libgist.specs.contracts.held.AnyStore as AnyStore
use Rattle.libgist.specs.contracts.held.Held as any
use Rattle.snapshot.proofs.snapshot.Snapshot.TheSendSync as snapshot
use Rattle.libgist.specs.Owning.{HeldState, shown_at}
use Rattle.libgist.specs.contracts.lent.LentInside as inside
use Rattle.map.proofs.map_snapshot.MapSnapshot.TheSendSync as map_snapshot
use Rattle.libgist.proofs.StoresShared.{store_sync, following_sync}
use Rattle.libgist.proofs.MapsShared.{map_sync, map_following_sync}

ruleset of_keys = (interval.the_send, interval.the_sync, interval_atom.the_send, interval_atom.the_sync, box.the_send, box.the_sync, box_atom.the_send, box_atom.the_sync, set.the_send, set.the_sync, set_atom.the_send, set_atom.the_sync, interval_block.the_send, interval_block.the_sync, box_block.the_send, box_block.the_sync, set_block.the_send, set_block.the_sync, crosses, sendable)

any_store_sync : IsSync (AnyStore.the_field).row
any_store_sync = search (store_sync, of_keys) depth 40

any_snapshot_sync : IsSync (AnySnapshot.the_field).row
any_snapshot_sync = search (snapshot.the_sync, of_keys) depth 40

any_query_sync : IsSync (AnyQuery.the_field).row
any_query_sync = search (pred.crosses, pred.crosses_both, of_keys) depth 40

any_feed_sync : IsSync (AnyFeed.the_field).row
any_feed_sync = search (following_sync, of_keys) depth 40

any_map_sync : IsSync (AnyMap.the_field).row
any_map_sync = search (map_sync, of_keys) depth 40

any_map_snapshot_sync : IsSync (AnyMapSnapshot.the_field).row
any_map_snapshot_sync = search (map_snapshot.the_sync, of_keys) depth 40

any_map_feed_sync : IsSync (AnyMapFeed.the_field).row
any_map_feed_sync = search (map_following_sync, of_keys) depth 40

any_sync : IsSync any.the_row
any_sync = recorded_sync _ _ _ (any.the_type).to_one (enum_sync (variants.shape any.the_type) ((any_store_sync, tt), ((any_snapshot_sync, tt), ((any_query_sync, tt), ((any_feed_sync, tt), ((any_map_sync, tt), ((any_map_snapshot_sync, tt), ((any_map_feed_sync, tt), tt))))))))

in_block_keyless : (p : Ptr) → Keyless (in_block p ftrue)
in_block_keyless (block_ptr b o) = tt
in_block_keyless null_ptr = tt

shown_keyless : (at : Ptr) (state : Option HeldState) (κ : Lft) → Keyless (shown_at at state κ)
shown_keyless at None κ = tt
shown_keyless at (Some state) κ = (in_block_keyless at, any_sync.shared state (block_of at) (count_of at) κ)

pub lent_inside_sync : IsSync inside.the_row
lent_inside_sync =
    let O = inside.the_type in
    let all : AllSync (fields O) = search (crosses, sendable) depth 20 in
    record { shared = λ d b o κ. ((struct_sync (shape O) all).shared (to O d) b o κ, shown_keyless d.at d.state κ) }
