-- A table's pages by number, through its chunks.
use Rattle.std.proofs.Common.{◌≡◌, ◌≢◌, ℕ, zero, suc, ◌+◌, ◌*◌, ◌/◌, ◌%◌, ◌<◌, ◌≤◌, List, [], ◌∷◌, ◌++◌, All, length, take, drop, set, get_or, refl, sym, subst, ap, ap₂, ◌∙◌, append_assoc, arith, ◌-◌}
use Rattle.std.proofs.lemmas.List.{append-nil, drop_all, take_all, length-append, get_or-take, get_or_append_left, take-append-le, take-set-le, take_more_set, length-take-le}
use Rattle.std.proofs.lemmas.List.Elements.{All-nil, All-cons, All-append}
use Rattle.std.proofs.Math.Seq.{take-set-lt}
use Rattle.std.specs.Prelude.{Result, Ok, Err, OnErr}
use Rattle.std.proofs.Math.Seq.{take-append_seam}
use Rattle.node.specs.Pages.{Page}
use Rattle.node.specs.Changes.{post_parent, post_child, post_sibling, post_up}
use Rattle.page_table.specs.Chunks.{ArePlaces, Becomes, Chunk1024, HasPlaces, IsFull1024, IsFull16, IsPage, PutsNext, StaysTo, alone, both_changed, first_pages, joined, pages_of_1024, pages_of_16, put_in, three_changed}
use Rattle.page_table.specs.PlaceLaws.{joined_length, page_is, page_put, page_within, place_full, put_becomes, put_pages, put_places, put_same, set_before}
use Rattle.page_table.proofs.Chunks.{last_first}
use Rattle.page_table.specs.Trees.{Tree, page_at, no_page, replaced, added}

pub on_err_of : {A E : Type 0} (P : Type 0) (r : Result A E) → P → OnErr r P
on_err_of P (Ok x) p = tt
on_err_of P (Err e) p = p

module _ {X : Type 0} where
  take_prefix : (n m : ℕ) (xs : List X) → n ≤ m → take n (take m xs) ≡ take n xs
  take_prefix zero m xs h = refl
  take_prefix (suc n) zero xs h = absurd (omega (arith, h))
  take_prefix (suc n) (suc m) [] h = refl
  take_prefix (suc n) (suc m) (x ∷ xs) h = ap (λ l. x ∷ l) (take_prefix n m xs (omega (arith, h)))

  -- what a slice of a whole list has left
  pub slice_back : (old new : List X) (n : ℕ) → n ≡ length old → length new ≡ length old → take n (new ++ drop (length new) old) ≡ new
  slice_back old new n size same =
      ap (λ rest. take n (new ++ rest)) (drop_all (length new) old (omega (arith, same)))
      ∙ ap (take n) (append-nil new)
      ∙ take_all n new (omega (arith, size, same))

module _ {K : Type 0} where
  -- a chunk with another page
  abbrev pub put_16 : List (Page K) → ℕ → Page K → List (Page K)
  put_16 chunk i page = put_in (λ old j new. new) no_page 1 chunk i page

  abbrev pub put_1024 : Chunk1024 (Page K) → ℕ → Page K → Chunk1024 (Page K)
  put_1024 chunk i page = put_in put_16 [] 16 chunk i page

  put_16_becomes : (chunk : List (Page K)) (i : ℕ) (page : Page K) → IsFull16 chunk → i < length (pages_of_16 chunk) → Becomes pages_of_16 IsFull16 (put_16 chunk i page) (set (pages_of_16 chunk) i page)
  put_16_becomes chunk i page full l = put_becomes alone IsPage no_page (λ old j new. new) 1 page_put (λ x j p f m. tt) 16 chunk full i l page

  put_1024_becomes : (chunk : Chunk1024 (Page K)) (i : ℕ) (page : Page K) → IsFull1024 chunk → i < length (pages_of_1024 chunk) → Becomes pages_of_1024 IsFull1024 (put_1024 chunk i page) (set (pages_of_1024 chunk) i page)
  put_1024_becomes chunk i page full l =
      put_becomes pages_of_16 IsFull16 [] put_16 16 (λ x j p f m. (put_16_becomes x j p f m).pages) (λ x j p f m. (put_16_becomes x j p f m).full) 64 chunk full i l page

  -- all pages of the chunks, those behind the last too
  abbrev pub all_of : List (Chunk1024 (Page K)) → List (Page K)
  all_of chunks = joined pages_of_1024 chunks

  -- the chunks after a change
  abbrev pub ChunksBecome : List (Chunk1024 (Page K)) → List (Chunk1024 (Page K)) → List (Page K) → Type 0
  ChunksBecome old new after = Becomes (joined pages_of_1024) (ArePlaces pages_of_1024 IsFull1024 1024 (length old)) new after

  all_length : (chunks : List (Chunk1024 (Page K))) (n : ℕ) → HasPlaces chunks n → length (all_of chunks) ≡ length chunks * 1024
  all_length chunks n has = joined_length pages_of_1024 1024 chunks has.full.sizes

  pub in_all : {chunks : List (Chunk1024 (Page K))} {n : ℕ} (has : HasPlaces chunks n) {i : ℕ} → i < n → i < length (all_of chunks)
  in_all {chunks = chunks} {n = n} has l = omega (arith, l, has.enough, all_length chunks n has)

  pub still_places : {old new : List (Chunk1024 (Page K))} {n : ℕ} {after : List (Page K)} → HasPlaces old n → ChunksBecome old new after → HasPlaces new n
  still_places has becomes = record {
    full = record { count = refl; each = becomes.full.each; sizes = becomes.full.sizes };
    enough = omega (arith, has.enough, becomes.full.count);
  }

  pub fewer : {chunks : List (Chunk1024 (Page K))} {n : ℕ} (m : ℕ) → HasPlaces chunks n → m ≤ n → HasPlaces chunks m
  fewer m has h = record { full = has.full; enough = omega (arith, h, has.enough) }

  take-shorter : (chunks : List (Chunk1024 (Page K))) (n m : ℕ) → n ≤ m → take n (first_pages m chunks) ≡ first_pages n chunks
  take-shorter chunks n m h = take_prefix n m (all_of chunks) h

  first_length : {chunks : List (Chunk1024 (Page K))} {n : ℕ} → HasPlaces chunks n → length (first_pages n chunks) ≡ n
  first_length {chunks = chunks} {n = n} has = length-take-le n (all_of chunks) (omega (arith, has.enough, all_length chunks n has))

  -- a page of a chunk is put, where the chunk was read
  pub page_becomes : {chunks : List (Chunk1024 (Page K))} {n : ℕ} (has : HasPlaces chunks n) {i : ℕ} → i < n → (x : Chunk1024 (Page K)) → x ≡ get_or chunks (i / 1024) x → (page : Page K)
      → ChunksBecome chunks (set chunks (i / 1024) (put_1024 x (i % 1024) page)) (set (all_of chunks) i page)
  page_becomes {chunks = chunks} {n = n} has {i = i} l x e page =
      let m = in_all has l in
      let becomes = put_1024_becomes x (i % 1024) page (place_full has.full m x e) (page_within has.full m x e) in
      record { full = put_places has.full m x e (put_1024 x (i % 1024) page) page becomes; pages = put_pages has.full m x e (put_1024 x (i % 1024) page) page becomes }

  -- the tree of some chunks
  abbrev pub tree_of : ℕ → List (Chunk1024 (Page K)) → ℕ → Tree K
  tree_of n chunks k = record { pages = first_pages n chunks; counter = k }

  abbrev with_pages : ℕ → List (Page K) → Tree K
  with_pages k pages = record { pages = pages; counter = k }

  module _ {chunks : List (Chunk1024 (Page K))} {n k : ℕ} {t : Tree K} (has : HasPlaces chunks n) (is : tree_of n chunks k ≡ t) where
    pub count_is : n ≡ length t.pages
    count_is = sym (first_length has) ∙ ap (λ s. length s.pages) is

    pub within : {i : ℕ} → i < length t.pages → i < n
    within l = omega (arith, l, count_is)

    all_at : {i : ℕ} → i < length t.pages → get_or (all_of chunks) i no_page ≡ page_at t i
    all_at {i = i} l = sym (get_or-take n (all_of chunks) i no_page (within l)) ∙ ap (λ s. page_at s i) is

    -- a page that was read from its chunk
    pub read_page : {i : ℕ} → i < length t.pages → (x : Chunk1024 (Page K)) → x ≡ get_or chunks (i / 1024) x → get_or (pages_of_1024 x) (i % 1024) no_page ≡ page_at t i
    read_page l x e = page_is has.full (in_all has (within l)) x e no_page ∙ all_at l

    pub put_tree : {new : List (Chunk1024 (Page K))} {i : ℕ} (page : Page K) → i < length t.pages → ChunksBecome chunks new (set (all_of chunks) i page) → tree_of n new k ≡ replaced t i page
    put_tree {new = new} {i = i} page l becomes =
        ap (with_pages k) (ap (take n) becomes.pages ∙ take-set-lt n (all_of chunks) i page (within l)) ∙ ap (λ s. replaced s i page) is

    -- a page was written in its chunk
    pub written : {i : ℕ} → i < length t.pages → (x : Chunk1024 (Page K)) → x ≡ get_or chunks (i / 1024) x → (page : Page K) → tree_of n (set chunks (i / 1024) (put_1024 x (i % 1024) page)) k ≡ replaced t i page
    written l x e page = put_tree page l (page_becomes has (within l) x e page)

    pub written_places : {i : ℕ} → i < length t.pages → (x : Chunk1024 (Page K)) → x ≡ get_or chunks (i / 1024) x → (page : Page K) → HasPlaces (set chunks (i / 1024) (put_1024 x (i % 1024) page)) n
    written_places l x e page = still_places has (page_becomes has (within l) x e page)

    -- two pages were changed
    pub both_tree : (up low : Page K → Page K → Page K) {upper lower : ℕ} → upper < length t.pages → lower < length t.pages → {new : List (Chunk1024 (Page K))} → ChunksBecome chunks new (both_changed no_page up low upper lower (all_of chunks))
        → tree_of n new k ≡ replaced (replaced t lower (low (page_at t upper) (page_at t lower))) upper (up (page_at t upper) (page_at t lower))
    both_tree up low {upper = upper} {lower = lower} lu ll becomes =
        let all = all_of chunks in
        let below = low (get_or all upper no_page) (get_or all lower no_page) in
        let above = up (get_or all upper no_page) (get_or all lower no_page) in
        let after : List (Page K) → Page K → Page K → List (Page K) = λ ps a b. set (set ps lower (low a b)) upper (up a b) in
        ap (with_pages k)
        (ap (take n) becomes.pages
        ∙ take-set-lt n (set all lower below) upper above (within lu)
        ∙ ap (λ ps. set ps upper above) (take-set-lt n all lower below (within ll)))
        ∙ ap₂ (λ a b. with_pages k (after (first_pages n chunks) a b)) (all_at lu) (all_at ll)
        ∙ ap (λ s. with_pages k (after s.pages (page_at t upper) (page_at t lower))) is
        ∙ ap (λ c. record { pages = after t.pages (page_at t upper) (page_at t lower); counter = c }) (ap (λ s. s.counter) is)

    -- a page was put behind the others
    module _ {new : List (Chunk1024 (Page K))} {page : Page K} (puts : PutsNext n chunks page new) where
      pub next_tree : tree_of (n + 1) new k ≡ added t page
      next_tree = ap (with_pages k) puts.pages ∙ ap (λ s. added s page) is

      pub next_hidden : tree_of n new k ≡ t
      next_hidden = ap (with_pages k) puts.kept ∙ is

      pub next_places : HasPlaces new n
      next_places = fewer n puts.places (omega arith)

  -- the last page is given up
  pub forgotten : {chunks : List (Chunk1024 (Page K))} {n k : ℕ} {s : Tree K} → HasPlaces chunks n → tree_of n chunks k ≡ s → (t : Tree K) (page : Page K) → s ≡ added t page → tree_of (n - 1) chunks k ≡ t
  forgotten {chunks = chunks} {n = n} {k = k} has is t page e =
      let all = ap (λ u. u.pages) (is ∙ e) in
      let one_less : n - 1 ≡ length t.pages = omega (arith, first_length has, ap length all, length-append t.pages (page ∷ [])) in
      ap (with_pages k)
      (sym (take-shorter chunks (n - 1) n (omega arith))
      ∙ ap (take (n - 1)) all
      ∙ ap (λ m. take m (t.pages ++ page ∷ [])) one_less
      ∙ take-append_seam t.pages (page ∷ []))
      ∙ ap (λ c. with_pages c t.pages) (ap (λ u. u.counter) (is ∙ e))

  -- a chunk of one thing in each place
  pub filled_places : {X : Type 0} (pages : X → List (Page K)) (is_full : X → Type 0) (size : ℕ) {x : X} {xs : List X} {n : ℕ} → length xs ≡ n → All (λ y. y ≡ x) xs → is_full x → length (pages x) ≡ size → ArePlaces pages is_full size n xs
  filled_places pages is_full size long each full sized = record {
    count = long;
    each = λ k d l. subst is_full (sym (each k d l)) full;
    sizes = λ k d l. ap (λ z. length (pages z)) (each k d l) ∙ sized;
  }

  pub filled_length : {X : Type 0} {pages : X → List (Page K)} {is_full : X → Type 0} {size n : ℕ} {xs : List X} → ArePlaces pages is_full size n xs → length (joined pages xs) ≡ n * size
  filled_length {pages = pages} {size = size} {xs = xs} are = joined_length pages size xs are.sizes ∙ ap (λ m. m * size) are.count

  joined_push : (chunks : List (Chunk1024 (Page K))) (chunk : Chunk1024 (Page K)) → all_of (chunks ++ chunk ∷ []) ≡ all_of chunks ++ pages_of_1024 chunk
  joined_push [] chunk = append-nil (pages_of_1024 chunk)
  joined_push (x ∷ chunks) chunk = ap (λ r. pages_of_1024 x ++ r) (joined_push chunks chunk) ∙ sym (append_assoc (pages_of_1024 x) (all_of chunks) (pages_of_1024 chunk))

  -- a chunk more
  pub stays_longer : {old new : List (Chunk1024 (Page K))} {n : ℕ} {chunk : Chunk1024 (Page K)} → HasPlaces old n → IsFull1024 chunk → length (pages_of_1024 chunk) ≡ 1024 → new ≡ old ++ chunk ∷ [] → StaysTo n old new
  stays_longer {old = old} {n = n} {chunk = chunk} has whole size e = subst (λ cs. StaysTo n old cs) (sym e) (record {
    places = record {
      full = record {
        count = refl;
        each = All-append IsFull1024 old (chunk ∷ []) has.full.each (All-cons IsFull1024 chunk [] whole (All-nil IsFull1024));
        sizes = All-append (λ x. length (pages_of_1024 x) ≡ 1024) old (chunk ∷ []) has.full.sizes (All-cons (λ x. length (pages_of_1024 x) ≡ 1024) chunk [] size (All-nil (λ x. length (pages_of_1024 x) ≡ 1024)));
      };
      enough = omega (arith, has.enough, length-append old (chunk ∷ []));
    };
    pages = ap (take n) (joined_push old chunk) ∙ take-append-le n (all_of old) (pages_of_1024 chunk) (omega (arith, has.enough, all_length old n has));
  })

  -- a page in a place behind those that stay
  pub puts_next : {old chunks new : List (Chunk1024 (Page K))} {n : ℕ} {shown page : Page K} → StaysTo n old chunks → HasPlaces chunks (n + 1) → ChunksBecome chunks new (set (all_of chunks) n shown) → shown ≡ page → PutsNext n old page new
  puts_next {chunks = chunks} {n = n} {shown = shown} stays has becomes is = record {
    places = still_places has becomes;
    pages =
        ap (take (n + 1)) becomes.pages
        ∙ take_more_set (all_of chunks) n shown (in_all has (omega arith))
        ∙ ap₂ (λ ps p. ps ++ p ∷ []) stays.pages is;
    kept = ap (take n) becomes.pages ∙ take-set-le n (all_of chunks) n shown (omega arith) ∙ stays.pages;
  }

  -- a posting
  pub posting_tree : {chunks new : List (Chunk1024 (Page K))} {n k : ℕ} {t : Tree K} (has : HasPlaces chunks n) (is : tree_of n chunks k ≡ t) {p c s number : ℕ}
      → p < length t.pages → c < length t.pages → s < length t.pages → p ≢ s → c ≢ s → number ≡ suc t.counter
      → ChunksBecome chunks new (three_changed no_page (λ upper lower beside. post_parent upper c lower.cover s beside.cover) (λ upper lower beside. post_child lower number) (λ upper lower beside. post_sibling beside) p c s (all_of chunks))
      → tree_of n new number ≡ record { pages = (replaced (replaced (replaced t s (post_sibling (page_at t s))) c (post_child (page_at t c) (suc t.counter))) p (post_up (page_at t p) c (page_at t c) s (page_at t s))).pages; counter = suc t.counter }
  posting_tree {chunks = chunks} {n = n} {k = k} {t = t} has is {p = p} {c = c} {s = s} {number = number} lp lc ls ps cs en posts =
      let all = all_of chunks in
      let up : Page K → Page K → Page K → Page K = λ upper lower beside. post_parent upper c lower.cover s beside.cover in
      let low : Page K → Page K = λ lower. post_child lower number in
      let above = up (get_or all p no_page) (get_or all c no_page) (get_or all s no_page) in
      let below = low (get_or all c no_page) in
      let hung = post_sibling (get_or all s no_page) in
      let pages : first_pages n chunks ≡ t.pages = ap (λ u. u.pages) is in
      ap (with_pages number)
      (ap (take n) (posts.pages ∙ last_first all p c s above below hung ps cs)
      ∙ take-set-lt n (set (set all s hung) c below) p above (within has is lp)
      ∙ ap (λ qs. set qs p above) (take-set-lt n (set all s hung) c below (within has is lc) ∙ ap (λ qs. set qs c below) (take-set-lt n all s hung (within has is ls)))
      ∙ ap₂ (λ qs h. set (set (set qs s (post_sibling h)) c below) p above) pages (all_at has is ls)
      ∙ ap₂ (λ a b. set (set (set t.pages s (post_sibling (page_at t s))) c (low a)) p (up b a (get_or all s no_page))) (all_at has is lc) (all_at has is lp)
      ∙ ap₂ (λ m v. set (set (set t.pages s (post_sibling (page_at t s))) c (post_child (page_at t c) m)) p (up (page_at t p) (page_at t c) v)) en (all_at has is ls))
      ∙ ap (λ m. with_pages m (set (set (set t.pages s (post_sibling (page_at t s))) c (post_child (page_at t c) (suc t.counter))) p (post_parent (page_at t p) c (page_at t c).cover s (page_at t s).cover))) en

  pub same_places : {chunks : List (Chunk1024 (Page K))} {n : ℕ} (q : ℕ) {x : Chunk1024 (Page K)} → HasPlaces chunks n → x ≡ get_or chunks q x → HasPlaces (set chunks q x) n
  same_places {chunks = chunks} {n = n} q {x = x} has e = subst (λ cs. HasPlaces cs n) (sym (put_same chunks q x e)) has

  same_tree : (chunks : List (Chunk1024 (Page K))) (n q : ℕ) {k : ℕ} {x : Chunk1024 (Page K)} {t : Tree K} → tree_of n chunks k ≡ t → x ≡ get_or chunks q x → tree_of n (set chunks q x) k ≡ t
  same_tree chunks n q {k = k} {x = x} is e = ap (λ cs. tree_of n cs k) (put_same chunks q x e) ∙ is

  -- a page with another in its place, among some with one more
  pub replaced_before : (t : Tree K) (page x : Page K) (i : ℕ) → i < length t.pages → replaced (added t page) i x ≡ added (replaced t i x) page
  replaced_before t page x i l = ap (with_pages t.counter) (set_before t.pages (page ∷ []) i x l)

  pub page_before : (t : Tree K) (page : Page K) (i : ℕ) → i < length t.pages → page_at (added t page) i ≡ page_at t i
  page_before t page i l = get_or_append_left t.pages (page ∷ []) no_page i l

  longer : (t : Tree K) (page : Page K) (i : ℕ) → i < length t.pages → i < length (added t page).pages
  longer t page i l = omega (arith, l, length-append t.pages (page ∷ []))

  -- a page behind the others, and another in the place of one of them
  module _ {old new : List (Chunk1024 (Page K))} {n k : ℕ} {t : Tree K} (has : HasPlaces old n) (is : tree_of n old k ≡ t) {right : Page K} (puts : PutsNext n old right new)
      {p : ℕ} (l : p < length t.pages) (chunk : Chunk1024 (Page K)) (read : chunk ≡ get_or new (p / 1024) chunk) where
    pub part_within : p < n + 1
    part_within = omega (arith, within has is l)

    pub part_tree : (x : Page K) → tree_of (n + 1) (set new (p / 1024) (put_1024 chunk (p % 1024) x)) k ≡ added (replaced t p x) right
    part_tree x = written puts.places (next_tree has is puts) (longer t right p l) chunk read x ∙ replaced_before t right x p l

    pub part_places : (x : Page K) → HasPlaces (set new (p / 1024) (put_1024 chunk (p % 1024) x)) (n + 1)
    part_places x = written_places puts.places (next_tree has is puts) (longer t right p l) chunk read x

    pub part_page : get_or (pages_of_1024 chunk) (p % 1024) no_page ≡ page_at t p
    part_page = read_page puts.places (next_tree has is puts) (longer t right p l) chunk read ∙ page_before t right p l

    pub part_kept : tree_of n (set new (p / 1024) chunk) k ≡ t
    part_kept = same_tree new n (p / 1024) (next_hidden has is puts) read

    pub part_kept_places : HasPlaces (set new (p / 1024) chunk) n
    part_kept_places = same_places (p / 1024) (next_places has is puts) read

  -- two pages were put behind the others
  module _ {old first second : List (Chunk1024 (Page K))} {n k : ℕ} {t : Tree K} (has : HasPlaces old n) (is : tree_of n old k ≡ t) {left : Page K} (puts : PutsNext n old left first) where
    -- the first n pages hide what follows, where some of it is given up too
    pub stays_hidden : StaysTo (n + 1) first second → tree_of n second k ≡ t
    stays_hidden stays =
        ap (with_pages k) (sym (take-shorter second n (n + 1) (omega arith)) ∙ ap (take n) stays.pages ∙ take-shorter first n (n + 1) (omega arith)) ∙ next_hidden has is puts

    module _ {right : Page K} (more : PutsNext (n + 1) first right second) (l : 0 < length t.pages) (chunk : Chunk1024 (Page K)) (read : chunk ≡ get_or second 0 chunk) where
      two_tree : tree_of (n + 1 + 1) second k ≡ added (added t left) right
      two_tree = next_tree puts.places (next_tree has is puts) more

      root_within : 0 < length (added (added t left) right).pages
      root_within = longer (added t left) right 0 (longer t left 0 l)

      pub rise_within : 0 < n + 1 + 1
      rise_within = omega arith

      pub rise_tree : (x : Page K) (after : ℕ) → after ≡ n + 2 → tree_of after (set second 0 (put_1024 chunk 0 x)) k ≡ added (added (replaced t 0 x) left) right
      rise_tree x after e =
          ap (λ m. tree_of m (set second 0 (put_1024 chunk 0 x)) k) (omega (arith, e))
          ∙ written more.places two_tree root_within chunk read x
          ∙ replaced_before (added t left) right x 0 (longer t left 0 l)
          ∙ ap (λ s. added s right) (replaced_before t left x 0 l)

      pub rise_places : (x : Page K) (after : ℕ) → after ≡ n + 2 → HasPlaces (set second 0 (put_1024 chunk 0 x)) after
      rise_places x after e =
          let same : n + 1 + 1 ≡ after = omega (arith, e) in
          subst (λ m. HasPlaces (set second 0 (put_1024 chunk 0 x)) m) same (written_places more.places two_tree root_within chunk read x)

      pub rise_page : get_or (pages_of_1024 chunk) 0 no_page ≡ page_at t 0
      rise_page = read_page more.places two_tree root_within chunk read ∙ page_before (added t left) right 0 (longer t left 0 l) ∙ page_before t left 0 l

      pub rise_kept : tree_of n (set second 0 chunk) k ≡ t
      rise_kept = same_tree second n 0 (stays_hidden (record { places = fewer (n + 1) more.places (omega arith); pages = more.kept })) read

      pub rise_kept_places : HasPlaces (set second 0 chunk) n
      rise_kept_places = same_places 0 (fewer n more.places (omega arith)) read
