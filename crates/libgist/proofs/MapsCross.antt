-- A map, and a feed of it, may be moved to another thread, whatever its class.
use denote.RattleType.{RattleType}
use denote.Struct.Declared as declared
use denote.Param.Send.{IsSend, IsSync, sendable, struct_send, view_send, recorded_send}
use Rattle.std.proofs.Crossing.{crosses}
use Rattle.std.proofs.alloc.Global.TheSendSync as heap
use Rattle.key_class.specs.declared.block.Block as block
use Rattle.key_class.specs.declared.class.KeyClass as class
use Rattle.std.specs.declared.clone.Clone as clone
use Rattle.std.specs.declared.cmp.PartialEq as partial_eq
use Rattle.feed.specs.declared.reach.Reach as reach
use Rattle.ids.proofs.ids.Ids.TheSendSync as ids
use Rattle.map.proofs.retired.Retired.TheSendSync as retired
use Rattle.map.proofs.roll.Roll.TheSendSync as roll
use Rattle.revisions.proofs.item.MapItem.TheSendSync as map_item
use Rattle.map.specs.contracts.generation.Generation as Generation
use Rattle.map.specs.contracts.generation.Generation.TheInside as generation_inside
use Rattle.map.specs.contracts.map.Map as Map
use Rattle.map.specs.contracts.map.Map.TheInside as map_inside
use Rattle.map.specs.contracts.map_feed.MapFeed as MapFeed
use Rattle.map.specs.contracts.map_feed.MapFeed.TheInside as map_feed_inside
use Rattle.map.specs.contracts.successor.Successor as Successor
use Rattle.libgist.specs.contracts.map_following.MapFollowing as MapFollowing
use Rattle.libgist.specs.contracts.map_following.MapFollowing.TheInside as map_following_inside
use Rattle.libgist.proofs.StoresCross.{store_send, feed_send}

module _ (C K A B : RattleType) (c : class.Ghosts C.Denot K.Denot A.Denot B.Denot) (kc : clone.Ghosts K.Denot) (b : block.Ghosts B.Denot K.Denot) (bc : clone.Ghosts B.Denot) (kp : partial_eq.Ghosts K.Denot) (ap : partial_eq.Ghosts A.Denot) where
  generation_send : IsSend K → IsSync K → IsSend A → IsSync A → IsSend B → IsSync B → IsSend (Generation.the_row C K A B c kc b bc kp ap)
  generation_send sk yk sa ya sb yb =
      let tree = store_send C K A B c kc b bc kp ap sk yk sa ya sb yb in
      view_send (generation_inside.the_row C K A B c kc b bc kp ap) _ _ _ _
      (recorded_send (generation_inside.the_field C K A B c kc b bc kp ap).row _ _ (generation_inside.the_type C K A B c kc b bc kp ap).to_one
      (struct_send (declared.shape (generation_inside.the_type C K A B c kc b bc kp ap)) (
        search (heap.the_field_send, crosses, sendable) depth 20,
        (
          search (tree, crosses, sendable) depth 20,
          (
            search (ids.the_send, sendable) depth 20,
            (
              search sendable depth 20,
              (
                search sendable depth 20,
                (
                  search sendable depth 20,
                  (
                    search sendable depth 20,
                    tt,
                  ),
                ),
              ),
            ),
          ),
        ),
      )))

  successor_send : IsSend K → IsSync K → IsSend A → IsSync A → IsSend B → IsSync B → IsSend (Successor.the_row C K A B c kc b bc kp ap)
  successor_send sk yk sa ya sb yb =
      let made = generation_send sk yk sa ya sb yb in
      recorded_send (Successor.the_field C K A B c kc b bc kp ap).row _ _ (Successor.the_type C K A B c kc b bc kp ap).to_one
      (struct_send (declared.shape (Successor.the_type C K A B c kc b bc kp ap)) (
        search (roll.the_send, crosses, sendable) depth 20,
        (
          search (made, crosses, sendable) depth 20,
          tt,
        ),
      ))

  pub map_send : IsSend K → IsSync K → IsSend A → IsSync A → IsSend B → IsSync B → IsSend (Map.the_row C K A B c kc b bc kp ap)
  map_send sk yk sa ya sb yb =
      let present = generation_send sk yk sa ya sb yb in
      let next = successor_send sk yk sa ya sb yb in
      view_send (map_inside.the_row C K A B c kc b bc kp ap) _ _ _ _
      (recorded_send (map_inside.the_field C K A B c kc b bc kp ap).row _ _ (map_inside.the_type C K A B c kc b bc kp ap).to_one
      (struct_send (declared.shape (map_inside.the_type C K A B c kc b bc kp ap)) (
        search (heap.the_field_send, crosses, sendable) depth 20,
        (
          search sendable depth 20,
          (
            search (present, crosses, sendable) depth 20,
            (
              search (next, crosses, sendable) depth 20,
              (
                search (retired.the_send, crosses, sendable) depth 20,
                tt,
              ),
            ),
          ),
        ),
      )))

module _ (C K A B : RattleType) (r : reach.Ghosts C.Denot K.Denot A.Denot B.Denot) (c : class.Ghosts C.Denot K.Denot A.Denot B.Denot) (kc : clone.Ghosts K.Denot) (b : block.Ghosts B.Denot K.Denot) (bc : clone.Ghosts B.Denot) (kp : partial_eq.Ghosts K.Denot) (ap : partial_eq.Ghosts A.Denot) where
  map_feed_send : IsSend K → IsSync K → IsSend A → IsSync A → IsSend B → IsSync B → IsSend (MapFeed.the_row C K A B r c kc b bc kp ap)
  map_feed_send sk yk sa ya sb yb =
      let feed = feed_send C K A B r c kc b bc kp ap sk yk sa ya sb yb in
      view_send (map_feed_inside.the_row C K A B r c kc b bc kp ap) _ _ _ _
      (recorded_send (map_feed_inside.the_field C K A B r c kc b bc kp ap).row _ _ (map_feed_inside.the_type C K A B r c kc b bc kp ap).to_one
      (struct_send (declared.shape (map_feed_inside.the_type C K A B r c kc b bc kp ap)) (
        search (heap.the_field_send, crosses, sendable) depth 20,
        (
          search sendable depth 20,
          (
            search (feed, crosses, sendable) depth 20,
            tt,
          ),
        ),
      )))

  pub map_following_send : IsSend K → IsSync K → IsSend A → IsSync A → IsSend B → IsSync B → IsSend (MapFollowing.the_row C K A B r c kc b bc kp ap)
  map_following_send sk yk sa ya sb yb =
      let feed = map_feed_send sk yk sa ya sb yb in
      view_send (map_following_inside.the_row C K A B r c kc b bc kp ap) _ _ _ _
      (recorded_send (map_following_inside.the_field C K A B r c kc b bc kp ap).row _ _ (map_following_inside.the_type C K A B r c kc b bc kp ap).to_one
      (struct_send (declared.shape (map_following_inside.the_type C K A B r c kc b bc kp ap)) (
        search (heap.the_field_send, crosses, sendable) depth 20,
        (
          search (feed, crosses, sendable) depth 20,
          (
            search (map_item.the_send, crosses, sendable) depth 30,
            (
              search sendable depth 20,
              tt,
            ),
          ),
        ),
      )))
