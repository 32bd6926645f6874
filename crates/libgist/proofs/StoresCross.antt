-- A store, and a feed of it, may be moved to another thread, whatever its class.
use denote.RattleType.{RattleType}
use denote.Builtin.{u64}
use denote.Struct.Declared as declared
use denote.Param.Send.{IsSend, IsSync, sendable, struct_send, view_send, recorded_send}
use Rattle.std.proofs.Crossing.{crosses}
use Rattle.std.proofs.alloc.Global.TheSendSync as heap
use Rattle.key_class.proofs.pred.Pred.TheLaws.TheKnot as pred
use Rattle.mailbox.proofs.tray.Tray.TheSendSync as tray
use Rattle.world.proofs.Crossing.{world_send}
use Rattle.key_class.specs.declared.block.Block as block
use Rattle.key_class.specs.declared.class.KeyClass as class
use Rattle.std.specs.declared.clone.Clone as clone
use Rattle.std.specs.declared.cmp.PartialEq as partial_eq
use Rattle.store.specs.contracts.store.Store as Store
use Rattle.store.specs.contracts.store.Store.TheInside as store_inside
use Rattle.feed.specs.declared.reach.Reach as reach
use Rattle.slab.specs.contracts.Slab as Slab
use Rattle.slab.specs.contracts.Slab.TheInside as slab_inside
use Rattle.std.specs.contracts.alloc.Global as Heap
use Rattle.std.specs.contracts.impls.GlobalAllocator.TheImpl.{ghosts}
use Rattle.std.specs.contracts.prelude.U64Ord.TheImpl as u64_ord
use Rattle.std.specs.contracts.prelude.U64PartialEq.TheImpl as u64_eq
use Rattle.std.specs.contracts.prelude.U64PartialOrd.TheImpl as u64_partial
use Rattle.change_list.proofs.item.Item.TheSendSync as item
use Rattle.std.proofs.MapsCrossing.{BTreeMap-send}
use Rattle.feed.specs.contracts.listeners.Listeners as Listeners
use Rattle.feed.specs.contracts.registration.Registration as Registration
use Rattle.feed.specs.contracts.topics.Topic as Topic
use Rattle.feed.specs.contracts.topics.Topics as Topics
use Rattle.feed.specs.contracts.topics.Topics.TheInside as topics_inside
use Rattle.feed.specs.contracts.feed.Feed as Feed
use Rattle.feed.specs.contracts.feed.Feed.TheInside as feed_inside
use Rattle.libgist.specs.contracts.following.Following as Following
use Rattle.libgist.specs.contracts.following.Following.TheInside as following_inside

module _ (C K A B : RattleType) (c : class.Ghosts C.Denot K.Denot A.Denot B.Denot) (kc : clone.Ghosts K.Denot) (b : block.Ghosts B.Denot K.Denot) (bc : clone.Ghosts B.Denot) (kp : partial_eq.Ghosts K.Denot) (ap : partial_eq.Ghosts A.Denot) where
  pub store_send : IsSend K → IsSync K → IsSend A → IsSync A → IsSend B → IsSync B → IsSend (Store.the_row C K A B c kc b bc kp ap)
  store_send sk yk sa ya sb yb =
      view_send (store_inside.the_row C K A B c kc b bc kp ap) _ _ _ _
      (recorded_send (store_inside.the_field C K A B c kc b bc kp ap).row _ _ (store_inside.the_type C K A B c kc b bc kp ap).to_one
      (struct_send (declared.shape (store_inside.the_type C K A B c kc b bc kp ap)) (
        search (heap.the_field_send, crosses, sendable) depth 20,
        (
          search (world_send, tray.the_send, sendable) depth 20,
          tt,
        ),
      )))

listeners_send : IsSend Listeners.the_row
listeners_send = search (BTreeMap-send, crosses, sendable) depth 30

module _ (A : RattleType) where
  topic_send : IsSend A → IsSync A → IsSend (Topic.the_row A)
  topic_send sa ya =
      recorded_send (Topic.the_field A).row _ _ (Topic.the_type A).to_one
      (struct_send (declared.shape (Topic.the_type A)) (
        search (pred.crosses, pred.crosses_both, crosses, sendable) depth 20,
        (
          search (listeners_send, sendable) depth 10,
          tt,
        ),
      ))

  registration_send : IsSend A → IsSync A → IsSend (Registration.the_row A)
  registration_send sa ya = search (pred.crosses, pred.crosses_both, crosses, sendable) depth 30

slab_send : (T : RattleType) → IsSend T → IsSend (Slab.the_field T Heap.the_row ghosts).row
slab_send T st =
    view_send (slab_inside.the_row T Heap.the_row ghosts) _ _ _ _
    (recorded_send (slab_inside.the_field T Heap.the_row ghosts).row _ _ (slab_inside.the_type T Heap.the_row ghosts).to_one
    (struct_send (declared.shape (slab_inside.the_type T Heap.the_row ghosts)) (
      search (crosses, sendable) depth 30,
      (
        search sendable depth 20,
        (
          search sendable depth 20,
          tt,
        ),
      ),
    )))

module _ (C K A B : RattleType) (r : reach.Ghosts C.Denot K.Denot A.Denot B.Denot) (c : class.Ghosts C.Denot K.Denot A.Denot B.Denot) (kc : clone.Ghosts K.Denot) (b : block.Ghosts B.Denot K.Denot) (bc : clone.Ghosts B.Denot) (kp : partial_eq.Ghosts K.Denot) (ap : partial_eq.Ghosts A.Denot) where
  topics_send : IsSend K → IsSync K → IsSend A → IsSync A → IsSend B → IsSync B → IsSend (Topics.the_row C K A B r c kc b bc kp ap)
  topics_send sk yk sa ya sb yb =
      let tree = store_send C K A B c kc b bc kp ap sk yk sa ya sb yb in
      view_send (topics_inside.the_row C K A B r c kc b bc kp ap) _ _ _ _
      (recorded_send (topics_inside.the_field C K A B r c kc b bc kp ap).row _ _ (topics_inside.the_type C K A B r c kc b bc kp ap).to_one
      (struct_send (declared.shape (topics_inside.the_type C K A B r c kc b bc kp ap)) (
        search (heap.the_field_send, crosses, sendable) depth 20,
        (
          slab_send (Topic.the_row A) (topic_send A sa ya),
          (
            search (BTreeMap-send, sendable) depth 30,
            (
              search (tree, crosses, sendable) depth 20,
              (
                search sendable depth 20,
                tt,
              ),
            ),
          ),
        ),
      )))

  pub feed_send : IsSend K → IsSync K → IsSend A → IsSync A → IsSend B → IsSync B → IsSend (Feed.the_row C K A B r c kc b bc kp ap)
  feed_send sk yk sa ya sb yb =
      let topics = topics_send sk yk sa ya sb yb in
      view_send (feed_inside.the_row C K A B r c kc b bc kp ap) _ _ _ _
      (recorded_send (feed_inside.the_field C K A B r c kc b bc kp ap).row _ _ (feed_inside.the_type C K A B r c kc b bc kp ap).to_one
      (struct_send (declared.shape (feed_inside.the_type C K A B r c kc b bc kp ap)) (
        search (heap.the_field_send, crosses, sendable) depth 20,
        (
          search sendable depth 20,
          (
            search sendable depth 20,
            (
              search sendable depth 20,
              (
                BTreeMap-send u64 (Registration.the_row A) u64_ord.ghosts u64_eq.ghosts u64_partial.ghosts (search sendable depth 10) (registration_send A sa ya),
                (
                  search (topics, crosses, sendable) depth 20,
                  tt,
                ),
              ),
            ),
          ),
        ),
      )))

  pub following_send : IsSend K → IsSync K → IsSend A → IsSync A → IsSend B → IsSync B → IsSend (Following.the_row C K A B r c kc b bc kp ap)
  following_send sk yk sa ya sb yb =
      let feed = feed_send sk yk sa ya sb yb in
      view_send (following_inside.the_row C K A B r c kc b bc kp ap) _ _ _ _
      (recorded_send (following_inside.the_field C K A B r c kc b bc kp ap).row _ _ (following_inside.the_type C K A B r c kc b bc kp ap).to_one
      (struct_send (declared.shape (following_inside.the_type C K A B r c kc b bc kp ap)) (
        search (heap.the_field_send, crosses, sendable) depth 20,
        (
          search (feed, crosses, sendable) depth 20,
          (
            search (item.the_send, crosses, sendable) depth 30,
            (
              search sendable depth 20,
              tt,
            ),
          ),
        ),
      )))
