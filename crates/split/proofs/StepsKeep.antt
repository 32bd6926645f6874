-- Split, Post, Grow and Enlarge move rows and change none.
use Rattle.std.proofs.Common.{◌≡◌, ◌<◌, ℕ, suc, Bool, List, length, All, sym, ap, arith, subst}
use Rattle.std.proofs.lemmas.List.Elements.{All-nil}
use Rattle.split.proofs.PostUnder as post
use Rattle.split.proofs.EnlargeSound as enlarge
use Rattle.key_class.specs.declared.sides.Side.{Side}
use Rattle.page_table.specs.Keeping.{EachEntry, KeepsRows}
use Rattle.key_class.specs.Rules.{KeyLaws}
use Rattle.page_table.specs.Soundness.{IsSound, IsWithin}
use Rattle.page_table.specs.Trees.{Tree, naming, page_at}
use Rattle.page_table.specs.Weights.{weigh}
use Rattle.row_version.specs.Entries.{Entry}
use Rattle.split.proofs.Grow.{grow-length, grow_pages}
use Rattle.split.proofs.GrowRows.{can_grow, grow_rows}
use Rattle.split.proofs.PartWeights.{All-left_part, All-right_part}
use Rattle.split.proofs.Post.{post-length}
use Rattle.split.proofs.PostUnder.{post_rows}
use Rattle.split.proofs.Split.{split-length, split_pages}
use Rattle.split.proofs.SplitUnder.{split_rows}
use Rattle.split.proofs.StepsOnce.{grow_all, post_all, split_all}
use Rattle.split.specs.Steps.{CanPost, CanSplit, SidesPart, after_enlarge, after_grow, after_post, after_split}

module _ {K : Type 0} (is_cover : K → K → Bool) (union : K → K → K) (t : Tree K) (fan : ℕ) (sound : IsSound is_cover fan t) where
  module _ (p : ℕ) (sides : List Side) (can : CanSplit t p sides) where
    pub split_keeps : KeepsRows t (after_split union t p sides)
    unfolding after_split
    split_keeps = record {
      pages = let e : length (after_split union t p sides).pages ≡ suc (length t.pages) = split-length union t p sides in omega (arith, e);
      counter = omega arith;
      under = λ q m l k. split_rows union t sound.rank sound.ranked p sides can.exists can.not_owed q m l;
      whole = λ f. split_all is_cover union t fan sound f p sides can;
    }

    pub split_entries : (P : Entry K → Type 0) → EachEntry P t → EachEntry P (after_split union t p sides)
    split_entries P each q l = split_pages union t p sides (λ q page. All P page.rows) can.exists
        (All-left_part P sides _ (each p can.exists)) (All-right_part P sides _ (each p can.exists)) (λ q k d. each q k)
        q (subst (λ n. q < n) (split-length union t p sides) l)

  module _ (p c s : ℕ) (can : CanPost t p c s) where
    pub post_keeps : KeepsRows t (after_post t p c s)
    unfolding after_post
    post_keeps = record {
      pages = let e : length (after_post t p c s).pages ≡ length t.pages = post-length t p c s in omega (arith, e);
      counter = omega arith;
      under = λ q m l k. post_rows t sound.rank sound.ranked p c s can q m l k;
      whole = λ f. post_all is_cover union t fan sound f p c s can;
    }

    pub post_entries : (P : Entry K → Type 0) → EachEntry P t → EachEntry P (after_post t p c s)
    post_entries P each q l =
        let k : q < length t.pages = subst (λ n. q < n) (post-length t p c s) l in
        subst (λ rows. All P rows) (sym (post.rows_same t sound.rank sound.ranked p c s can q k)) (each q k)

  module _ (sides : List Side) (part : SidesPart (page_at t 0) sides) where
    pub grow_keeps : KeepsRows t (after_grow union t sides)
    unfolding after_grow
    grow_keeps = record {
      pages = let e : length (after_grow union t sides).pages ≡ suc (suc (length t.pages)) = grow-length union t sides in omega (arith, e);
      counter = omega arith;
      under = λ q m l k. grow_rows union t sound.rank sound.ranked sides (can_grow is_cover union t fan sides sound part) q m l;
      whole = λ f. grow_all is_cover union t fan sound f sides part;
    }

    pub grow_entries : (P : Entry K → Type 0) → EachEntry P t → EachEntry P (after_grow union t sides)
    grow_entries P each q l = grow_pages union t sides (λ q page. All P page.rows) (All-nil P)
        (All-left_part P sides _ (each 0 sound.root_exists)) (All-right_part P sides _ (each 0 sound.root_exists)) (λ q k d. each q k)
        q (subst (λ n. q < n) (grow-length union t sides) l)

  module _ (laws : KeyLaws is_cover union) (p c : ℕ) (key : K) (lp : p < length t.pages) (names : 0 < naming c (page_at t p).branches) (fits : IsWithin is_cover (page_at t p).cover key) where
    pub enlarge_keeps : KeepsRows t (after_enlarge union t p c key)
    unfolding after_enlarge
    enlarge_keeps = record {
      pages = let e : length (after_enlarge union t p c key).pages ≡ length t.pages = enlarge.enlarge_length is_cover union laws t fan sound p c key lp names fits in omega (arith, e);
      counter = omega arith;
      under = λ q m l k f. ap (weigh f) (enlarge.enlarge_rows is_cover union laws t fan sound p c key lp names fits q m l);
      whole = λ f. ap (weigh f) (enlarge.enlarge_rows is_cover union laws t fan sound p c key lp names fits 0 t.counter sound.root_exists);
    }

    pub enlarge_entries : (P : Entry K → Type 0) → EachEntry P t → EachEntry P (after_enlarge union t p c key)
    enlarge_entries P each q l =
        let k : q < length t.pages = subst (λ n. q < n) (enlarge.enlarge_length is_cover union laws t fan sound p c key lp names fits) l in
        subst (λ rows. All P rows) (sym (enlarge.rows_same is_cover union laws t fan sound p c key lp names fits q k)) (each q k)
