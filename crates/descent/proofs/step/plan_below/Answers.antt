use Rattle.std.proofs.Common.{refl, sym, ◌∙◌, ap, arith, ◌≡◌}
use Rattle.page_table.specs.Trees.{page_at}
use Rattle.node.specs.Pages.{entries_of, is_within}
use Rattle.descent.proofs.Descending.{child_exists, enlarge_next, open_below, post_next}
use Rattle.descent.proofs.step.plan_below.Goals as goal

pub page-below-requires : goal.page-below-requires
page-below-requires g c = rw c.pages.ensures.table (child_exists g.C.KeyClass.rules.is_cover g.C.KeyClass.rules.union_of g.C.KeyClass.rules.size_of c.args.search.now c.pages.ensures.sound c.args.page c.requires.exists c.args.key c.args.child c.requires.chosen)

pub returns-then-is_owed : goal.returns-then-is_owed
returns-then-is_owed g c =
    let here : c.page-below.result.now ≡ page_at c.args.search.now.tree c.args.child = c.page-below.ensures ∙ ap (λ t. page_at t c.args.child) c.pages.ensures.table in
    (refl, c.requires.chosen, post_next g.C.KeyClass.rules.is_cover g.C.KeyClass.rules.union_of g.C.KeyClass.rules.size_of c.args.search.now c.pages.ensures.sound c.args.page c.requires.exists c.args.key c.args.child c.requires.chosen (ap (λ page. page.owed) (sym here) ∙ sym c.is_owed.ensures ∙ c.if-is_owed.true))

pub returns-then-fan-entry_count : goal.returns-then-fan-entry_count
returns-then-fan-entry_count g c =
    let here : c.page-below.result.now ≡ page_at c.args.search.now.tree c.args.child = c.page-below.ensures ∙ ap (λ t. page_at t c.args.child) c.pages.ensures.table in
    let entries : entries_of c.page-below.result.now ≡ entries_of (page_at c.args.search.now.tree c.args.child) = ap entries_of here in (
      c.requires.chosen,
      record {
        exists = child_exists g.C.KeyClass.rules.is_cover g.C.KeyClass.rules.union_of g.C.KeyClass.rules.size_of c.args.search.now c.pages.ensures.sound c.args.page c.requires.exists c.args.key c.args.child c.requires.chosen;
        not_owed = ap (λ page. page.owed) (sym here) ∙ sym c.is_owed.ensures ∙ c.if-is_owed.false;
        full = omega (arith, c.if-fan-entry_count.true, c.fan.ensures, c.entry_count.ensures, entries);
      },
    )

pub returns-then-not-covers : goal.returns-then-not-covers
returns-then-not-covers g c =
    let here : c.page-below.result.now ≡ page_at c.args.search.now.tree c.args.child = c.page-below.ensures ∙ ap (λ t. page_at t c.args.child) c.pages.ensures.table in
    let entries : entries_of c.page-below.result.now ≡ entries_of (page_at c.args.search.now.tree c.args.child) = ap entries_of here in (
      refl,
      c.requires.chosen,
      open_below g.C.KeyClass.rules.is_cover g.C.KeyClass.rules.union_of g.C.KeyClass.rules.size_of c.args.search.now c.pages.ensures.sound c.args.page c.requires.exists c.args.key c.args.child c.requires.chosen
          (ap (λ page. page.owed) (sym here) ∙ sym c.is_owed.ensures ∙ c.if-is_owed.false)
          (omega (arith, c.if-fan-entry_count.false, c.fan.ensures, c.entry_count.ensures, entries)),
      (ap (λ page. is_within g.C.KeyClass.rules.is_cover page.cover c.args.key) (sym here) ∙ sym c.covers.ensures ∙ c.if-not-covers.true),
      enlarge_next g.C.KeyClass.rules.is_cover g.C.KeyClass.rules.union_of g.C.KeyClass.rules.size_of c.args.search.now c.pages.ensures.sound c.args.page c.requires.exists c.args.key c.args.child c.requires.chosen c.requires.covers,
    )

pub returns : goal.returns
returns g c =
    let here : c.page-below.result.now ≡ page_at c.args.search.now.tree c.args.child = c.page-below.ensures ∙ ap (λ t. page_at t c.args.child) c.pages.ensures.table in
    let entries : entries_of c.page-below.result.now ≡ entries_of (page_at c.args.search.now.tree c.args.child) = ap entries_of here in (
      c.requires.chosen,
      open_below g.C.KeyClass.rules.is_cover g.C.KeyClass.rules.union_of g.C.KeyClass.rules.size_of c.args.search.now c.pages.ensures.sound c.args.page c.requires.exists c.args.key c.args.child c.requires.chosen
          (ap (λ page. page.owed) (sym here) ∙ sym c.is_owed.ensures ∙ c.if-is_owed.false)
          (omega (arith, c.if-fan-entry_count.false, c.fan.ensures, c.entry_count.ensures, entries)),
      (ap (λ page. is_within g.C.KeyClass.rules.is_cover page.cover c.args.key) (sym here) ∙ sym c.covers.ensures ∙ c.if-not-covers.false),
    )
