-- What a handle owns may be moved to another thread, whatever its kind and class, and so may a pointer that owns it.
use mir.Raw.{raw}
use base.Fraction.{full_share}
use base.Shift.{Keyless}
use denote.Exit.{Exit, unchanged, leaves, hidden, under}
use denote.RawPtr.{Ptr, block_ptr, null_ptr}
use denote.Struct.Struct.{exits_of}
use denote.Enum.Declared as variants
use denote.Struct.Owning.{shape, fields, to}
use denote.Memory.{lone}
use denote.Param.Send.{IsSend, Quiet, AllSend, sendable, owning_send, struct_send, part_keyless, enum_send, recorded_send}
use Rattle.std.specs.Prelude.{Option, Some, None}
use Rattle.std.specs.Global.{Global}
use Rattle.std.proofs.Crossing.{frees, crosses}
use Rattle.interval_class.proofs.interval.Interval.TheSendSync as interval
use Rattle.interval_class.proofs.atom.Atom.TheSendSync as interval_atom
use Rattle.interval_class.proofs.block.IntervalBlock.TheSendSync as interval_block
use Rattle.box_class.proofs.boxes.BoxKey.TheSendSync as box
use Rattle.box_class.proofs.atom.Atom.TheSendSync as box_atom
use Rattle.box_class.proofs.block.BoxBlock.TheSendSync as box_block
use Rattle.set_class.proofs.elements.Elements.TheSendSync as set
use Rattle.set_class.proofs.atom.Atom.TheSendSync as set_atom
use Rattle.set_class.proofs.block.SetBlock.TheSendSync as set_block
use Rattle.key_class.proofs.pred.Pred.TheLaws.TheKnot as pred
use Rattle.snapshot.proofs.snapshot.Snapshot.TheSendSync as snapshot
use Rattle.libgist.specs.Owning.{HeldState, owned}
use Rattle.libgist.specs.contracts.held.AnyFeed as AnyFeed
use Rattle.libgist.specs.contracts.held.AnyMap as AnyMap
use Rattle.libgist.specs.contracts.held.AnyMapFeed as AnyMapFeed
use Rattle.libgist.specs.contracts.held.AnyMapSnapshot as AnyMapSnapshot
use Rattle.libgist.specs.contracts.held.AnyQuery as AnyQuery
use Rattle.libgist.specs.contracts.held.AnySnapshot as AnySnapshot
use Rattle.libgist.specs.contracts.held.AnyStore as AnyStore
use Rattle.libgist.specs.contracts.held.Held as any
use Rattle.libgist.specs.contracts.inside.Inside as inside
use Rattle.map.proofs.map_snapshot.MapSnapshot.TheSendSync as map_snapshot
use Rattle.libgist.proofs.StoresCross.{store_send, following_send}
use Rattle.libgist.proofs.MapsCross.{map_send, map_following_send}

ruleset of_keys = (interval.the_send, interval.the_sync, interval_atom.the_send, interval_atom.the_sync, box.the_send, box.the_sync, box_atom.the_send, box_atom.the_sync, set.the_send, set.the_sync, set_atom.the_send, set_atom.the_sync, interval_block.the_send, interval_block.the_sync, box_block.the_send, box_block.the_sync, set_block.the_send, set_block.the_sync, crosses, sendable)

any_store_send : IsSend (AnyStore.the_field).row
any_store_send = search (store_send, of_keys) depth 40

any_snapshot_send : IsSend (AnySnapshot.the_field).row
any_snapshot_send = search (snapshot.the_send, of_keys) depth 40

any_query_send : IsSend (AnyQuery.the_field).row
any_query_send = search (pred.crosses, pred.crosses_both, of_keys) depth 40

any_feed_send : IsSend (AnyFeed.the_field).row
any_feed_send = search (following_send, of_keys) depth 40

any_map_send : IsSend (AnyMap.the_field).row
any_map_send = search (map_send, of_keys) depth 40

any_map_snapshot_send : IsSend (AnyMapSnapshot.the_field).row
any_map_snapshot_send = search (map_snapshot.the_send, of_keys) depth 40

any_map_feed_send : IsSend (AnyMapFeed.the_field).row
any_map_feed_send = search (map_following_send, of_keys) depth 40

any_send : IsSend any.the_row
any_send = recorded_send _ _ _ (any.the_type).to_one (enum_send (variants.shape any.the_type) ((any_store_send, tt), ((any_snapshot_send, tt), ((any_query_send, tt), ((any_feed_send, tt), ((any_map_send, tt), ((any_map_snapshot_send, tt), ((any_map_feed_send, tt), tt))))))))

owned_keyless : (alloc : Global) (at : Ptr) (state : Option HeldState) → Keyless (owned alloc at state)
owned_keyless alloc at None = tt
owned_keyless alloc null_ptr (Some state) = (tt, frees.frees alloc (raw (lone any.the_row.mir)) null_ptr)
owned_keyless alloc (block_ptr b o) (Some state) = (part_keyless any.the_row any_send full_share state b o, frees.frees alloc (raw (lone any.the_row.mir)) (block_ptr b o))

quiet : {D X : Type 0} (f : D → X) (e : Exit X) → Quiet e → Quiet (hidden (under f e))
quiet f unchanged q = λ x w. tt
quiet f (leaves L l S s r₀) q = λ d. q (f d)

pub inside_send : IsSend inside.the_row
inside_send =
    let O = inside.the_type in
    let all : AllSend (fields O) = search (crosses, sendable) depth 20 in
    owning_send O all (λ d. owned_keyless d.alloc d.at d.state) (λ k. quiet (to O) (exits_of k (fields O)) ((struct_send (shape O) all).leaving k))
