-- Where the way of an insertion stands, and how much of it is left at most.
use Rattle.std.proofs.Common.{◌≡◌, ◌≢◌, ◌+◌, ◌*◌, ◌-◌, ◌<◌, ℕ, Bool, true, Option, length, refl, sym, ap, arith, subst}
use Rattle.key_class.specs.Rules.{Rules}
use Rattle.mailbox.specs.Outlets.{Rule}
use Rattle.node.specs.Pages.{Page, is_within}
use Rattle.page_table.specs.Trees.{Tree, page_at}
use Rattle.split.specs.SearchTrees.{SearchTree, IsSearchTree}
use Rattle.split.specs.Steps.{after_enlarge}
use Rattle.descent.proofs.Rising.{made, few_made}
use Rattle.descent.proofs.Widening.{enlarged_child, enlarged_length, goes_on_below}
use Rattle.descent.specs.NextSteps.{HasRoom, IsOpenBelow}
use Rattle.world.specs.States.{State, with_pages, IsSoundWorld}
use Rattle.writes.proofs.MovingPages.{moves_more}
use Rattle.writes.specs.PageSteps.{MovesPages}

module _ {K A : Type 0} (rules : Rules K A) (rule : Rule) (key : K) where
  -- the way has come to a page, where it may go on, and pages alone have changed
  pub record IsOnWay (old now : State K A) (page : ℕ) : Type 0 where
    pub moved : MovesPages rules rule old now
    pub exists : page < length now.search.tree.pages
    pub covers : is_within rules.is_cover (page_at now.search.tree page).cover key ≡ true
    pub room : page ≢ 0 → HasRoom now.search page

  -- at the root
  pub on_root : (old now : State K A) → IsSoundWorld rules.is_cover now → MovesPages rules rule old now → IsOnWay old now 0
  on_root old now sound moved = record {
    moved = moved;
    exists = sound.tree.sound.root_exists;
    covers = subst (λ (o : Option K). is_within rules.is_cover o key ≡ true) (sym sound.tree.sound.root.no_cover) refl;
    room = λ other. absurd (other refl);
  }

  -- at a child that covers the key
  pub on_child : (old now : State K A) (p c : ℕ) → IsOnWay old now p → IsOpenBelow now.search p c → is_within rules.is_cover (page_at now.search.tree c).cover key ≡ true → IsOnWay old now c
  on_child old now p c on below covers = record { moved = on.moved; exists = below.exists; covers = covers; room = λ other. below.room }

  -- at a child that was enlarged
  pub on_enlarged : ((a b : K) → rules.is_cover (rules.union_of a b) b ≡ true) → (old now new : State K A) (p c : ℕ) → IsOnWay old now p → IsOpenBelow now.search p c → MovesPages rules rule now new
      → new ≡ with_pages now (after_enlarge rules.union_of now.search.tree p c key) → IsOnWay old new c
  on_enlarged right old now new p c on below moved is =
      let further = goes_on_below rules.union_of key rules.is_cover right now.search p c below in record {
        moved = moves_more rules rule old now new on.moved moved;
        exists = subst (λ (s : State K A). c < length s.search.tree.pages) (sym is) further.0;
        covers = subst (λ (s : State K A). is_within rules.is_cover (page_at s.search.tree c).cover key ≡ true) (sym is) further.2;
        room = λ other. subst (λ (s : State K A). HasRoom s.search c) (sym is) further.1;
      }

  -- after a step, at the page where the way goes on
  pub on_resumed : (old now new : State K A) (p q : ℕ) → IsOnWay old now p → MovesPages rules rule now new → q < length new.search.tree.pages → is_within rules.is_cover (page_at new.search.tree q).cover key ≡ true → (q ≢ 0 → HasRoom new.search q)
      → IsOnWay old new q
  on_resumed old now new p q on moved exists covers room = record { moved = moves_more rules rule old now new on.moved moved; exists = exists; covers = covers; room = room }

  -- after a step at which the way begins anew
  pub on_root_again : (old now new : State K A) (p : ℕ) → IsOnWay old now p → IsSoundWorld rules.is_cover new → MovesPages rules rule now new → IsOnWay old new 0
  on_root_again old now new p on sound moved = on_root old new sound (moves_more rules rule old now new on.moved moved)

lower : (most before after level below : ℕ) → before < after → after < most → below < 65537 → (most - after) * 65537 + below < (most - before) * 65537 + level
lower most before after level below more few l = omega (arith, more, few, l)

module _ {K : Type 0} where
  -- Each new page and each posting is one of few, and between them the level falls.
  abbrev pub way_left : SearchTree K → ℕ → ℕ
  way_left s page = (s.limit + s.limit - made s.tree) * 65537 + (page_at s.tree page).level

  pub left_below : (s : SearchTree K) (p c : ℕ) → IsOpenBelow s p c → way_left s c < way_left s p
  left_below s p c below = omega (arith, below.level)

  left_made : (is_cover : K → K → Bool) (s t : SearchTree K) (p q : ℕ) → IsSearchTree is_cover t.tree t.fan t.least t.limit → q < length t.tree.pages → t.limit ≡ s.limit → made s.tree < made t.tree → way_left t q < way_left s p
  left_made is_cover s t p q tree exists limit more =
      let few : made t.tree < t.limit + t.limit = few_made is_cover t.fan t.tree tree.sound t.limit tree.within in
      let low : (page_at t.tree q).level < length t.tree.pages = (tree.sound.shape q exists).low in
      let at : way_left t q < (t.limit + t.limit - made s.tree) * 65537 + (page_at s.tree p).level
      = lower (t.limit + t.limit) (made s.tree) (made t.tree) (page_at s.tree p).level (page_at t.tree q).level more few (omega (arith, low, tree.within, tree.page_limit)) in
      subst (λ l. way_left t q < (l + l - made s.tree) * 65537 + (page_at s.tree p).level) limit at

  enlarged_counter : (union : K → K → K) (t : Tree K) (p c : ℕ) (key : K) → (after_enlarge union t p c key).counter ≡ t.counter
  unfolding after_enlarge
  enlarged_counter union t p c key = refl

  enlarged_made : (union : K → K → K) (t : Tree K) (p c : ℕ) (key : K) → made (after_enlarge union t p c key) ≡ made t
  enlarged_made union t p c key = omega (arith, enlarged_length union key t p c, enlarged_counter union t p c key)

  enlarged_level : (union : K → K → K) (s : SearchTree K) (p c : ℕ) (key : K) → IsOpenBelow s p c → (page_at (after_enlarge union s.tree p c key) c).level ≡ (page_at s.tree c).level
  enlarged_level union s p c key below = ap (λ (page : Page K). page.level) (enlarged_child union key s.tree p c below.exists (λ e. apart (ap (λ q. (page_at s.tree q).level) e)))
    where
      apart : (page_at s.tree c).level ≡ (page_at s.tree p).level → ⊥
      apart e = omega (arith, e, below.level)

module _ {K A : Type 0} (now new : State K A) where
  -- where a page was made or posted, less is left wherever the way goes on
  pub made_left : (is_cover : K → K → Bool) (tree : Tree K) (p q : ℕ) → IsSoundWorld is_cover new → q < length new.search.tree.pages → new ≡ with_pages now tree → made now.search.tree < made tree → way_left new.search q < way_left now.search p
  made_left is_cover tree p q sound exists is more =
      left_made is_cover now.search new.search p q sound.tree exists (ap (λ (s : State K A). s.search.limit) is) (subst (λ (s : State K A). made now.search.tree < made s.search.tree) (sym is) more)

  -- where a child was enlarged, nothing was made, and the level falls
  pub enlarged_left : (union : K → K → K) (p c : ℕ) (key : K) → IsOpenBelow now.search p c → new ≡ with_pages now (after_enlarge union now.search.tree p c key) → way_left new.search c < way_left now.search p
  enlarged_left union p c key below is =
      subst (λ (s : State K A). way_left s.search c < way_left now.search p) (sym is)
      (let same = ap (λ m. (now.search.limit + now.search.limit - m) * 65537) (enlarged_made union now.search.tree p c key) in
      omega (arith, same, enlarged_level union now.search p c key below, below.level))
