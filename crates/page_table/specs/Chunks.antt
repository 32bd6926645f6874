-- Pages in places, 16 of which make a chunk, 64 of which make a larger one.
use Rattle.std.specs.Prelude.{◌≡◌, ℕ, ◌+◌, ◌*◌, ◌/◌, ◌%◌, ◌≤◌, List, [], ◌∷◌, ◌++◌, length, take, flat_map, slice_index_or, slice_set, All}

-- 64 chunks of 16 pages
abbrev pub Chunk1024 : Type 0 → Type 0
Chunk1024 P = List (List P)

module _ {P : Type 0} where
  -- the pages of all places, one after the other
  abbrev pub joined : {X : Type 0} → (X → List P) → List X → List P
  joined pages places = flat_map pages places

  -- n places, each of `size` pages
  pub record ArePlaces {X : Type 0} (pages : X → List P) (is_full : X → Type 0) (size n : ℕ) (places : List X) : Type 0 where
    pub count : length places ≡ n
    pub each : All is_full places
    pub sizes : All (λ x. length (pages x) ≡ size) places

  -- the places, with another page in one
  abbrev pub put_in : {X : Type 0} → (X → ℕ → P → X) → X → ℕ → List X → ℕ → P → List X
  put_in put none size places i page = slice_set places (i / size) (put (slice_index_or places (i / size) none) (i % size) page)

  -- the places, with two pages changed by both
  abbrev pub both_changed : P → (P → P → P) → (P → P → P) → ℕ → ℕ → List P → List P
  both_changed no_page up low upper lower pages =
      let above = slice_index_or pages upper no_page in
      let below = slice_index_or pages lower no_page in
      slice_set (slice_set pages lower (low above below)) upper (up above below)

  -- the places, with three pages changed by all
  abbrev pub three_changed : P → (P → P → P → P) → (P → P → P → P) → (P → P → P → P) → ℕ → ℕ → ℕ → List P → List P
  three_changed no_page up low by upper lower beside pages =
      let page = slice_index_or pages beside no_page in
      slice_set (both_changed no_page (λ x y. up x y page) (λ x y. low x y page) upper lower pages) beside
      (by (slice_index_or pages upper no_page) (slice_index_or pages lower no_page) page)

  -- full as before, and with these pages
  pub record Becomes {X : Type 0} (pages_of : X → List P) (is_full : X → Type 0) (new : X) (after : List P) : Type 0 where
    pub full : is_full new
    pub pages : pages_of new ≡ after

  -- a single page
  abbrev pub alone : P → List P
  alone page = page ∷ []

  abbrev pub IsPage : P → Type 0
  IsPage page = Unit {0}

  abbrev pub pages_of_16 : List P → List P
  pages_of_16 chunk = joined alone chunk

  abbrev pub pages_of_1024 : Chunk1024 P → List P
  pages_of_1024 chunk = joined pages_of_16 chunk

  abbrev pub IsFull16 : List P → Type 0
  IsFull16 chunk = ArePlaces alone IsPage 1 16 chunk

  abbrev pub IsFull1024 : Chunk1024 P → Type 0
  IsFull1024 chunk = ArePlaces pages_of_16 IsFull16 16 64 chunk

  -- the first n pages of chunks
  abbrev pub first_pages : ℕ → List (Chunk1024 P) → List P
  first_pages n chunks = take n (joined pages_of_1024 chunks)

  -- full chunks with at least n places
  pub record HasPlaces (chunks : List (Chunk1024 P)) (n : ℕ) : Type 0 where
    pub full : ArePlaces pages_of_1024 IsFull1024 1024 (length chunks) chunks
    pub enough : n ≤ 1024 * length chunks

  -- a full chunk, and full chunks with at least n places
  pub record HasFiller (filler : Chunk1024 P) (chunks : List (Chunk1024 P)) (n : ℕ) : Type 0 where
    pub whole : IsFull1024 filler
    pub size : length (pages_of_1024 filler) ≡ 1024
    pub places : HasPlaces chunks n

  -- the first n pages are unchanged
  pub record StaysTo (n : ℕ) (old new : List (Chunk1024 P)) : Type 0 where
    pub places : HasPlaces new n
    pub pages : first_pages n new ≡ first_pages n old

  -- the first n pages are unchanged, and this page follows them
  pub record PutsNext (n : ℕ) (old : List (Chunk1024 P)) (page : P) (new : List (Chunk1024 P)) : Type 0 where
    pub places : HasPlaces new (n + 1)
    pub pages : first_pages (n + 1) new ≡ first_pages n old ++ page ∷ []
    pub kept : first_pages n new ≡ first_pages n old
