-- What is under a page, by its own rows, its wanted children and its right link; and how a search comes through them.
use Rattle.std.proofs.Common.{◌≡◌, ◌+◌, ◌<◌, ℕ, Bool, true, List, All, [], ◌∷◌, ◌++◌, length, map, filter, reverse, get_or, sym, ap, arith, subst}
use Rattle.std.proofs.lemmas.Bool.{and_right}
use Rattle.std.proofs.lemmas.List.Elements.{All-head}
use Rattle.change_list.specs.declared.item.Row.{Row}
use Rattle.node.specs.declared.branch.Branch.{Branch}
use Rattle.node.specs.Pages.{Page, followed}
use Rattle.page_table.proofs.Scans.{scan_visit}
use Rattle.page_table.proofs.Under.{All-followed, weight_is}
use Rattle.page_table.proofs.Visits.{weigh-ones, weigh-reverse}
use Rattle.page_table.proofs.Weights.{weigh-append, weigh-at, weigh-flat_map, weigh-map}
use Rattle.page_table.specs.Soundness.{IsSound}
use Rattle.page_table.specs.Stacks.{StackItem, pushed}
use Rattle.page_table.specs.TraversalLaws.{Prunes}
use Rattle.page_table.specs.Trees.{Falls, Tree, page_at, pages_under, rows_under}
use Rattle.page_table.specs.Weights.{weigh}
use Rattle.search.proofs.Found.{found_weight, unfound_weight, weigh_found}
use Rattle.search.proofs.Picking.{none_picked}
use Rattle.search.specs.Live.{is_live, live_rows}
use Rattle.search.specs.Picks.{picked}
use Rattle.search.specs.Searches.{rows_below}
use Rattle.search.specs.Sinks.{TakesAll, TakesSome}

module _ {K : Type 0} (accepts : K → Bool) (t : Tree K) where
  -- what the rows weigh that are found under a page
  abbrev pub under : (Row K → ℕ) → ℕ → ℕ
  under w p = weigh (found_weight w accepts) (rows_under t p t.counter)

  -- and under some branches
  abbrev pub below_all : (Row K → ℕ) → List (Branch K) → ℕ
  below_all w branches = weigh (λ b. under w b.child) branches

  -- and under a right sibling
  abbrev pub beside : (Row K → ℕ) → List ℕ → ℕ
  beside w right = weigh (λ r. under w r) right

module _ {K : Type 0} (is_cover : K → K → Bool) (t : Tree K) (fan : ℕ) (sound : IsSound is_cover fan t) (p : ℕ) (l : p < length t.pages) where
  abbrev page : Page K
  page = page_at t p

  abbrev count : ℕ → ℕ
  count q = weigh (λ x. 1) (pages_under t q t.counter)

  all_pages : count p ≡ 1 + (weigh (λ b. count b.child) page.branches + weigh (λ r. count r) (followed page t.counter))
  all_pages = weight_is t sound.rank sound.ranked (λ x. 1) p t.counter l

  -- a child exists, and has fewer pages under it
  pub child_exists : (j : ℕ) (b : Branch K) → j < length page.branches → b ≡ get_or page.branches j b → b.child < length t.pages
  child_exists j b w is = let f : Falls (length t.pages) sound.rank p (get_or page.branches j b).child = (sound.ranked.links p l).down j b w in subst (λ (c : Branch K). c.child < length t.pages) (sym is) f.0

  pub child_fewer : (j : ℕ) (b : Branch K) → j < length page.branches → b ≡ get_or page.branches j b → length (pages_under t b.child t.counter) < length (pages_under t p t.counter)
  child_fewer j b w is =
      let a = weigh-at (λ (c : Branch K). count c.child) page.branches j b w in
      let e = ap (λ (c : Branch K). count c.child) is in
      omega (arith, a, e, all_pages, weigh-ones (pages_under t b.child t.counter), weigh-ones (pages_under t p t.counter))

  -- so does the page to which a right link leads
  pub right_exists : (r : ℕ) → r ∷ [] ≡ followed page t.counter → r < length t.pages
  right_exists r is =
      let falls : All (λ q. Falls (length t.pages) sound.rank p q) (followed page t.counter) = All-followed (λ (q : ℕ). Falls (length t.pages) sound.rank p q) page t.counter ((sound.ranked.links p l).along) in
      let f : Falls (length t.pages) sound.rank p r = All-head (λ (q : ℕ). Falls (length t.pages) sound.rank p q) r [] (subst (λ xs. All (λ q. Falls (length t.pages) sound.rank p q) xs) (sym is) falls) in
      f.0

  pub right_fewer : (r : ℕ) → r ∷ [] ≡ followed page t.counter → length (pages_under t r t.counter) < length (pages_under t p t.counter)
  right_fewer r is =
      let e : weigh (λ x. count x) (r ∷ []) ≡ weigh (λ x. count x) (followed page t.counter) = ap (λ xs. weigh (λ x. count x) xs) is in
      omega (arith, e, all_pages, weigh-ones (pages_under t r t.counter), weigh-ones (pages_under t p t.counter))

  module _ (through : (a b c : K) → is_cover a b ≡ true → is_cover b c ≡ true → is_cover a c ≡ true) (accepts wants : K → Bool) (prunes : Prunes is_cover accepts wants) where
    -- THE EQUATION
    pub under_parts : (w : Row K → ℕ) → under accepts t w p ≡ weigh w (live_rows accepts page.rows) + (below_all accepts t w (filter (λ b. wants b.key) page.branches) + beside accepts t w (followed page t.counter))
    under_parts w =
        let kept = filter (λ (b : Branch K). wants b.key) page.branches in
        let f = found_weight w accepts in
        let V : StackItem → ℕ = λ i. weigh f (rows_under t i.page i.memo) in
        let to_right : ℕ → StackItem = λ r. record { page = r; memo = t.counter } in
        let to_child : Branch K → StackItem = λ b. record { page = b.child; memo = t.counter } in
        let a = scan_visit is_cover through accepts wants prunes t fan sound f (λ e off. unfound_weight w accepts e (and_right (is_live e.died) (accepts e.key) off)) p t.counter l in
        let b = weigh-flat_map f (λ (i : StackItem). rows_under t i.page i.memo) (pushed t (λ b. wants b.key) p t.counter) in
        let c = weigh-append V (map to_right (followed page t.counter)) (reverse (map to_child kept)) in
        let d = weigh-map V to_right (followed page t.counter) in
        let e = weigh-reverse V (map to_child kept) in
        let g = weigh-map V to_child kept in
        let h = weigh_found w accepts page.rows in
        omega (arith, a, b, c, d, e, g, h)

module _ {K S : Type 0} (takes : S → List (Row K) → S → Type 0) (accepts wants : K → Bool) (t : Tree K) where
  -- what a sink was given of a page's rows and of what is below its wanted children, but for those that are left
  pub record GivesBut (page : Page K) (bits : ℕ) (old new : S) : Type 0 where
    pub given : List (Row K)
    pub taken : takes old given new
    pub all : (w : Row K → ℕ) → weigh w given + below_all accepts t w (picked bits page.branches) ≡ weigh w (live_rows accepts page.rows) + below_all accepts t w (filter (λ b. wants b.key) page.branches)

  -- at first the page's own rows
  pub gives_own : (page : Page K) (bits : ℕ) (old new : S) → takes old (live_rows accepts page.rows) new → picked bits page.branches ≡ filter (λ b. wants b.key) page.branches → GivesBut page bits old new
  gives_own page bits old new taken told = record {
    given = live_rows accepts page.rows;
    taken = taken;
    all = λ w. let b = ap (λ l. below_all accepts t w l) told in omega (arith, b);
  }

  module _ (takes_more : (a b c : S) (xs ys : List (Row K)) → takes a xs b → takes b ys c → takes a (xs ++ ys) c) where
    -- then what is below one child more
    pub gives_child : (page : Page K) (bits rest : ℕ) (b : Branch K) (old mid new : S) → picked bits page.branches ≡ picked rest page.branches ++ b ∷ []
        → GivesBut page bits old mid → TakesAll takes (rows_below accepts t b.child) mid new → GivesBut page rest old new
    gives_child page bits rest b old mid new told but more = record {
      given = but.given ++ more.given;
      taken = takes_more old mid new but.given more.given but.taken more.taken;
      all = λ w.
          let e = ap (λ l. below_all accepts t w l) told in
          let f = weigh-append (λ (c : Branch K). under accepts t w c.child) (picked rest page.branches) (b ∷ []) in
          let g = weigh-append w but.given more.given in
          let h = weigh_found w accepts (rows_under t b.child t.counter) in
          omega (arith, but.all w, more.all w, e, f, g, h);
    }

    module _ (is_cover : K → K → Bool) (through : (a b c : K) → is_cover a b ≡ true → is_cover b c ≡ true → is_cover a c ≡ true) (prunes : Prunes is_cover accepts wants) (fan : ℕ) (sound : IsSound is_cover fan t) (p : ℕ) (l : p < length t.pages) where
      abbrev parts : (w : Row K → ℕ) → under accepts t w p ≡ weigh w (live_rows accepts (page_at t p).rows) + (below_all accepts t w (filter (λ b. wants b.key) (page_at t p).branches) + beside accepts t w (followed (page_at t p) t.counter))
      parts w = under_parts is_cover t fan sound p l through accepts wants prunes w

      -- where the sink took only some of the page's own rows, these are some of all
      pub own_some : (old new : S) → TakesSome takes (live_rows accepts (page_at t p).rows) old new → TakesSome takes (rows_below accepts t p) old new
      own_some old new some = record {
        given = some.given;
        taken = some.taken;
        some = λ w. omega (arith, some.some w, parts w, weigh_found w accepts (rows_under t p t.counter));
      }

      -- so are those that it had before the children
      pub before_some : (bits : ℕ) (old new : S) → GivesBut (page_at t p) bits old new → TakesSome takes (rows_below accepts t p) old new
      before_some bits old new but = record {
        given = but.given;
        taken = but.taken;
        some = λ w. omega (arith, but.all w, parts w, weigh_found w accepts (rows_under t p t.counter));
      }

      -- and with some of what is below a child
      pub child_some : (bits rest : ℕ) (b : Branch K) (old mid new : S) → picked bits (page_at t p).branches ≡ picked rest (page_at t p).branches ++ b ∷ []
          → GivesBut (page_at t p) bits old mid → TakesSome takes (rows_below accepts t b.child) mid new → TakesSome takes (rows_below accepts t p) old new
      child_some bits rest b old mid new told but more = record {
        given = but.given ++ more.given;
        taken = takes_more old mid new but.given more.given but.taken more.taken;
        some = λ w.
            let e = ap (λ l. below_all accepts t w l) told in
            let f = weigh-append (λ (c : Branch K). under accepts t w c.child) (picked rest (page_at t p).branches) (b ∷ []) in
            let g = weigh-append w but.given more.given in
            let h = weigh_found w accepts (rows_under t b.child t.counter) in
            omega (arith, but.all w, more.some w, e, f, g, h, parts w, weigh_found w accepts (rows_under t p t.counter));
      }

      -- where no right link is followed that is all,
      pub gives_all : (old new : S) → [] ≡ followed (page_at t p) t.counter → GivesBut (page_at t p) 0 old new → TakesAll takes (rows_below accepts t p) old new
      gives_all old new none but = record {
        given = but.given;
        taken = but.taken;
        all = λ w.
            let b = ap (λ l. below_all accepts t w l) (none_picked (page_at t p).branches) in
            let c = ap (λ l. beside accepts t w l) none in
            let h = weigh_found w accepts (rows_under t p t.counter) in
            omega (arith, but.all w, parts w, b, c, h);
      }

      -- and otherwise with what is below that
      pub gives_right : (r : ℕ) (old mid new : S) → r ∷ [] ≡ followed (page_at t p) t.counter → GivesBut (page_at t p) 0 old mid → TakesAll takes (rows_below accepts t r) mid new → TakesAll takes (rows_below accepts t p) old new
      gives_right r old mid new is but more = record {
        given = but.given ++ more.given;
        taken = takes_more old mid new but.given more.given but.taken more.taken;
        all = λ w.
            let b = ap (λ l. below_all accepts t w l) (none_picked (page_at t p).branches) in
            let c = ap (λ l. beside accepts t w l) is in
            let g = weigh-append w but.given more.given in
            let h = weigh_found w accepts (rows_under t p t.counter) in
            let i = weigh_found w accepts (rows_under t r t.counter) in
            omega (arith, but.all w, more.all w, parts w, b, c, g, h, i);
      }

      pub right_some : (r : ℕ) (old mid new : S) → r ∷ [] ≡ followed (page_at t p) t.counter → GivesBut (page_at t p) 0 old mid → TakesSome takes (rows_below accepts t r) mid new → TakesSome takes (rows_below accepts t p) old new
      right_some r old mid new is but more = record {
        given = but.given ++ more.given;
        taken = takes_more old mid new but.given more.given but.taken more.taken;
        some = λ w.
            let b = ap (λ l. below_all accepts t w l) (none_picked (page_at t p).branches) in
            let c = ap (λ l. beside accepts t w l) is in
            let g = weigh-append w but.given more.given in
            let h = weigh_found w accepts (rows_under t p t.counter) in
            let i = weigh_found w accepts (rows_under t r t.counter) in
            omega (arith, but.all w, more.some w, parts w, b, c, g, h, i);
      }
