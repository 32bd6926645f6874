-- A world may go to another thread, where its keys, atoms and outlets may. A search that goes down through all its fields runs
-- out of steps, so each field has its own.
use denote.RattleType.{RattleType}
use denote.Struct.Declared.{shape}
use denote.Param.Send.{IsSend, IsSync, sendable, view_send, recorded_send, struct_send}
use Rattle.std.proofs.Crossing.{crosses}
use Rattle.key_class.specs.declared.block.Block as block
use Rattle.key_class.specs.declared.class.KeyClass as class
use Rattle.mailbox.specs.declared.outlet.Outlet as outlet
use Rattle.std.specs.declared.clone.Clone as clone
use Rattle.std.specs.declared.cmp.PartialEq as eq
use Rattle.key_class.proofs.pred.Pred.TheLaws.TheKnot as pred
use Rattle.scan.proofs.stack.Stack.TheSendSync as stack
use Rattle.change_list.proofs.change_list.ChangeList.TheSendSync as list
use Rattle.segmented.proofs.segmented_vec.SegmentedVec.TheSendSync as segmented
use Rattle.descent.proofs.finder.Finder.TheSendSync as finder
use Rattle.split.proofs.tree.SearchTree.TheSendSync as tree
use Rattle.cursor.specs.contracts.cursor.Cursor as Cursor
use Rattle.cursor.specs.contracts.cursor.Cursor.TheInside as cursor
use Rattle.world.specs.contracts.world.World as World
use Rattle.world.specs.contracts.world.World.TheInside as world

module _ (C O K A B E : RattleType) (c : class.Ghosts C.Denot K.Denot A.Denot B.Denot) (b : block.Ghosts B.Denot K.Denot) (k : eq.Ghosts K.Denot) (a : eq.Ghosts A.Denot) (o : outlet.Ghosts O.Denot K.Denot E.Denot) where
  cursor_send : IsSend K → IsSync K → IsSend A → IsSync A → IsSend O → IsSend (Cursor.the_row C O K A B E c b k a o)
  cursor_send sk yk sa ya so =
      view_send (cursor.the_row C O K A B E c b k a o) _ _ _ _
      (recorded_send (cursor.the_field C O K A B E c b k a o).row _ _ (cursor.the_type C O K A B E c b k a o).to_one
      (struct_send (shape (cursor.the_type C O K A B E c b k a o)) (
        search sendable depth 20,
        (
          search (crosses, sendable, pred.crosses, pred.crosses_both) depth 20,
          (
            search sendable depth 20,
            (
              search sendable depth 20,
              (
                search (stack.the_send, sendable) depth 20,
                (
                  search (crosses, sendable) depth 20,
                  (
                    search sendable depth 20,
                    (
                      search sendable depth 20,
                      (
                        search sendable depth 20,
                        tt,
                      ),
                    ),
                  ),
                ),
              ),
            ),
          ),
        ),
      )))

  pub world_send : (kc : clone.Ghosts K.Denot) (bc : clone.Ghosts B.Denot) → IsSend K → IsSync K → IsSend A → IsSync A → IsSend B → IsSync B → IsSend O → IsSend (World.the_row C O K A B E c kc b bc k a o)
  world_send kc bc sk yk sa ya sb yb so =
      let one_cursor = cursor_send sk yk sa ya so in
      view_send (world.the_row C O K A B E c kc b bc k a o) _ _ _ _
      (recorded_send (world.the_field C O K A B E c kc b bc k a o).row _ _ (world.the_type C O K A B E c kc b bc k a o).to_one
      (struct_send (shape (world.the_type C O K A B E c kc b bc k a o)) (
        search (tree.the_send, sendable) depth 20,
        (
          search sendable depth 20,
          (
            search (list.the_send, sendable) depth 20,
            (
              search (segmented.the_send, sendable) depth 20,
              (
                search (crosses, sendable) depth 20,
                (
                  search sendable depth 20,
                  (
                    search (finder.the_send, crosses, sendable) depth 20,
                    (
                      search sendable depth 20,
                      tt,
                    ),
                  ),
                ),
              ),
            ),
          ),
        ),
      )))
