-- A store, and a feed of it, may be read by threads at once, whatever its class.
use denote.RattleType.{RattleType}
use denote.Builtin.{u64}
use denote.Struct.Declared as declared
use denote.Param.Send.{IsSend, IsSync, sendable, struct_sync, view_sync, recorded_sync}
use Rattle.std.proofs.Crossing.{crosses}
use Rattle.std.proofs.MapsCrossing.{BTreeMap-sync}
use Rattle.std.proofs.alloc.Global.TheSendSync as heap
use Rattle.key_class.proofs.pred.Pred.TheLaws.TheKnot as pred
use Rattle.mailbox.proofs.tray.Tray.TheSendSync as tray
use Rattle.key_class.specs.declared.block.Block as block
use Rattle.key_class.specs.declared.class.KeyClass as class
use Rattle.std.specs.declared.clone.Clone as clone
use Rattle.std.specs.declared.cmp.PartialEq as partial_eq
use Rattle.store.specs.contracts.store.Store as Store
use Rattle.store.specs.contracts.store.Store.TheInside as store_inside
use Rattle.feed.specs.declared.reach.Reach as reach
use Rattle.slab.specs.contracts.Slab as Slab
use Rattle.slab.specs.contracts.Slab.TheInside as slab_inside
use Rattle.std.specs.contracts.alloc.Global as Heap
use Rattle.std.specs.contracts.impls.GlobalAllocator.TheImpl.{ghosts}
use Rattle.std.specs.contracts.prelude.U64Ord.TheImpl as u64_ord
use Rattle.std.specs.contracts.prelude.U64PartialEq.TheImpl as u64_eq
use Rattle.std.specs.contracts.prelude.U64PartialOrd.TheImpl as u64_partial
use Rattle.change_list.proofs.item.Item.TheSendSync as item
use Rattle.feed.specs.contracts.listeners.Listeners as Listeners
use Rattle.feed.specs.contracts.registration.Registration as Registration
use Rattle.feed.specs.contracts.topics.Topic as Topic
use Rattle.feed.specs.contracts.topics.Topics as Topics
use Rattle.feed.specs.contracts.topics.Topics.TheInside as topics_inside
use Rattle.feed.specs.contracts.feed.Feed as Feed
use Rattle.feed.specs.contracts.feed.Feed.TheInside as feed_inside
use Rattle.libgist.specs.contracts.following.Following as Following
use Rattle.libgist.specs.contracts.following.Following.TheInside as following_inside
use Rattle.scan.proofs.stack.Stack.TheSendSync as stack
use Rattle.change_list.proofs.change_list.ChangeList.TheSendSync as list
use Rattle.segmented.proofs.segmented_vec.SegmentedVec.TheSendSync as segmented
use Rattle.descent.proofs.finder.Finder.TheSendSync as finder
use Rattle.split.proofs.tree.SearchTree.TheSendSync as tree
use Rattle.cursor.specs.contracts.cursor.Cursor as Cursor
use Rattle.cursor.specs.contracts.cursor.Cursor.TheInside as cursor
use Rattle.world.specs.contracts.world.World as World
use Rattle.world.specs.contracts.world.World.TheInside as world
use Rattle.mailbox.specs.declared.outlet.Outlet as outlet

module _ (C O K A B E : RattleType) (c : class.Ghosts C.Denot K.Denot A.Denot B.Denot) (b : block.Ghosts B.Denot K.Denot) (k : partial_eq.Ghosts K.Denot) (a : partial_eq.Ghosts A.Denot) (o : outlet.Ghosts O.Denot K.Denot E.Denot) where
  cursor_sync : IsSend K → IsSync K → IsSend A → IsSync A → IsSend B → IsSync B → IsSync O → IsSync (Cursor.the_row C O K A B E c b k a o)
  cursor_sync sk yk sa ya sb yb yo =
      view_sync (cursor.the_row C O K A B E c b k a o) _ _ _ _
      (recorded_sync (cursor.the_field C O K A B E c b k a o).row _ _ (cursor.the_type C O K A B E c b k a o).to_one
      (struct_sync (declared.shape (cursor.the_type C O K A B E c b k a o)) (
        search sendable depth 20,
        (
          search (crosses, sendable, pred.crosses, pred.crosses_both) depth 20,
          (
            search sendable depth 20,
            (
              search sendable depth 20,
              (
                search (stack.the_sync, sendable) depth 20,
                (
                  search (crosses, sendable) depth 20,
                  (
                    search sendable depth 20,
                    (
                      search sendable depth 20,
                      (
                        search sendable depth 20,
                        tt,
                      ),
                    ),
                  ),
                ),
              ),
            ),
          ),
        ),
      )))

  world_sync : (kc : clone.Ghosts K.Denot) (bc : clone.Ghosts B.Denot) → IsSend K → IsSync K → IsSend A → IsSync A → IsSend B → IsSync B → IsSync O → IsSync (World.the_row C O K A B E c kc b bc k a o)
  world_sync kc bc sk yk sa ya sb yb yo =
      let one_cursor = cursor_sync sk yk sa ya sb yb yo in
      view_sync (world.the_row C O K A B E c kc b bc k a o) _ _ _ _
      (recorded_sync (world.the_field C O K A B E c kc b bc k a o).row _ _ (world.the_type C O K A B E c kc b bc k a o).to_one
      (struct_sync (declared.shape (world.the_type C O K A B E c kc b bc k a o)) (
        search (tree.the_sync, sendable) depth 20,
        (
          search sendable depth 20,
          (
            search (list.the_sync, sendable) depth 20,
            (
              search (segmented.the_sync, sendable) depth 20,
              (
                search (crosses, sendable) depth 20,
                (
                  search sendable depth 20,
                  (
                    search (finder.the_sync, crosses, sendable) depth 20,
                    (
                      search sendable depth 20,
                      tt,
                    ),
                  ),
                ),
              ),
            ),
          ),
        ),
      )))

module _ (C K A B : RattleType) (c : class.Ghosts C.Denot K.Denot A.Denot B.Denot) (kc : clone.Ghosts K.Denot) (b : block.Ghosts B.Denot K.Denot) (bc : clone.Ghosts B.Denot) (kp : partial_eq.Ghosts K.Denot) (ap : partial_eq.Ghosts A.Denot) where
  pub store_sync : IsSend K → IsSync K → IsSend A → IsSync A → IsSend B → IsSync B → IsSync (Store.the_row C K A B c kc b bc kp ap)
  store_sync sk yk sa ya sb yb =
      view_sync (store_inside.the_row C K A B c kc b bc kp ap) _ _ _ _
      (recorded_sync (store_inside.the_field C K A B c kc b bc kp ap).row _ _ (store_inside.the_type C K A B c kc b bc kp ap).to_one
      (struct_sync (declared.shape (store_inside.the_type C K A B c kc b bc kp ap)) (
        search (heap.the_field_sync, crosses, sendable) depth 20,
        (
          search (world_sync, tray.the_sync, sendable) depth 20,
          tt,
        ),
      )))

listeners_sync : IsSync Listeners.the_row
listeners_sync = search (BTreeMap-sync, crosses, sendable) depth 30

module _ (A : RattleType) where
  topic_sync : IsSend A → IsSync A → IsSync (Topic.the_row A)
  topic_sync sa ya =
      recorded_sync (Topic.the_field A).row _ _ (Topic.the_type A).to_one
      (struct_sync (declared.shape (Topic.the_type A)) (
        search (pred.crosses, pred.crosses_both, crosses, sendable) depth 20,
        (
          search (listeners_sync, sendable) depth 10,
          tt,
        ),
      ))

  registration_sync : IsSend A → IsSync A → IsSync (Registration.the_row A)
  registration_sync sa ya = search (pred.crosses, pred.crosses_both, crosses, sendable) depth 30

slab_sync : (T : RattleType) → IsSync T → IsSync (Slab.the_field T Heap.the_row ghosts).row
slab_sync T yt =
    view_sync (slab_inside.the_row T Heap.the_row ghosts) _ _ _ _
    (recorded_sync (slab_inside.the_field T Heap.the_row ghosts).row _ _ (slab_inside.the_type T Heap.the_row ghosts).to_one
    (struct_sync (declared.shape (slab_inside.the_type T Heap.the_row ghosts)) (
      search (crosses, sendable) depth 30,
      (
        search sendable depth 20,
        (
          search sendable depth 20,
          tt,
        ),
      ),
    )))

module _ (C K A B : RattleType) (r : reach.Ghosts C.Denot K.Denot A.Denot B.Denot) (c : class.Ghosts C.Denot K.Denot A.Denot B.Denot) (kc : clone.Ghosts K.Denot) (b : block.Ghosts B.Denot K.Denot) (bc : clone.Ghosts B.Denot) (kp : partial_eq.Ghosts K.Denot) (ap : partial_eq.Ghosts A.Denot) where
  topics_sync : IsSend K → IsSync K → IsSend A → IsSync A → IsSend B → IsSync B → IsSync (Topics.the_row C K A B r c kc b bc kp ap)
  topics_sync sk yk sa ya sb yb =
      let tree = store_sync C K A B c kc b bc kp ap sk yk sa ya sb yb in
      view_sync (topics_inside.the_row C K A B r c kc b bc kp ap) _ _ _ _
      (recorded_sync (topics_inside.the_field C K A B r c kc b bc kp ap).row _ _ (topics_inside.the_type C K A B r c kc b bc kp ap).to_one
      (struct_sync (declared.shape (topics_inside.the_type C K A B r c kc b bc kp ap)) (
        search (heap.the_field_sync, crosses, sendable) depth 20,
        (
          slab_sync (Topic.the_row A) (topic_sync A sa ya),
          (
            search (BTreeMap-sync, sendable) depth 30,
            (
              search (tree, crosses, sendable) depth 20,
              (
                search sendable depth 20,
                tt,
              ),
            ),
          ),
        ),
      )))

  pub feed_sync : IsSend K → IsSync K → IsSend A → IsSync A → IsSend B → IsSync B → IsSync (Feed.the_row C K A B r c kc b bc kp ap)
  feed_sync sk yk sa ya sb yb =
      let topics = topics_sync sk yk sa ya sb yb in
      view_sync (feed_inside.the_row C K A B r c kc b bc kp ap) _ _ _ _
      (recorded_sync (feed_inside.the_field C K A B r c kc b bc kp ap).row _ _ (feed_inside.the_type C K A B r c kc b bc kp ap).to_one
      (struct_sync (declared.shape (feed_inside.the_type C K A B r c kc b bc kp ap)) (
        search (heap.the_field_sync, crosses, sendable) depth 20,
        (
          search sendable depth 20,
          (
            search sendable depth 20,
            (
              search sendable depth 20,
              (
                BTreeMap-sync u64 (Registration.the_row A) u64_ord.ghosts u64_eq.ghosts u64_partial.ghosts (search sendable depth 10) (registration_sync A sa ya),
                (
                  search (topics, crosses, sendable) depth 20,
                  tt,
                ),
              ),
            ),
          ),
        ),
      )))

  pub following_sync : IsSend K → IsSync K → IsSend A → IsSync A → IsSend B → IsSync B → IsSync (Following.the_row C K A B r c kc b bc kp ap)
  following_sync sk yk sa ya sb yb =
      let feed = feed_sync sk yk sa ya sb yb in
      view_sync (following_inside.the_row C K A B r c kc b bc kp ap) _ _ _ _
      (recorded_sync (following_inside.the_field C K A B r c kc b bc kp ap).row _ _ (following_inside.the_type C K A B r c kc b bc kp ap).to_one
      (struct_sync (declared.shape (following_inside.the_type C K A B r c kc b bc kp ap)) (
        search (heap.the_field_sync, crosses, sendable) depth 20,
        (
          search (feed, crosses, sendable) depth 20,
          (
            search (item.the_sync, crosses, sendable) depth 30,
            (
              search sendable depth 20,
              tt,
            ),
          ),
        ),
      )))
