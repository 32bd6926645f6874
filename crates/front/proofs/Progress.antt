-- What a store's answers to lines tell its client.
use Rattle.std.proofs.Common.{◌≡◌, ℕ, length, suc, zero, Bool, true, false, List, [], ◌∷◌, ◌++◌, Result, Ok, Err, inl, inr, arith, refl, sym, subst}
use Rattle.std.specs.Result.{OnOk}
use Rattle.std.specs.Prelude.{nat_eq, nat_lt, ◌||◌}
use Rattle.std.proofs.lemmas.List.Sorted.{IsPermutation-refl}
use Rattle.change_list.specs.declared.config.Config.{Config}
use Rattle.key_class.specs.Rules.{Rules}
use Rattle.store.specs.States.{StoreState, new_store}
use Rattle.query_text.specs.Tokens.{Placed}
use Rattle.query_text.specs.ClassTexts.{Texts}
use Rattle.front.specs.Told.{Told, nothing_told}
use Rattle.front.specs.AsTold.{IsAsTold}
use Rattle.front.specs.Conversations.{Exchange, AnswersLine, AnswersLines, AnsweredAll, AnsweredWhole, AnsweredFirst}
use Rattle.front.specs.Sessions.{AnswersTokens, AnswersTold, ToldAll, ToldWhole, ToldFirst}

-- a consequence, in the case where all went well
pub if_well : {A E : Type 0} (r : Result A E) {P Q : Type 0} → (P → Q) → OnOk r P → OnOk r Q
if_well (Ok x) f h = f h
if_well (Err e) f h = h

-- no serial has been given yet
none_given : (c : ℕ) → (nat_eq c 0 || nat_lt 0 c) ≡ true
none_given zero = refl
none_given (suc c) = let h : nat_lt 0 (suc c) ≡ true = search arith in rw h (or_true (nat_eq (suc c) 0))
  where
    or_true : (b : Bool) → (b || true) ≡ true
    or_true true = refl
    or_true false = refl

-- a new store agrees with what is told before the first line
pub new_as_told : {K A : Type 0} (rules : Rules K A) (store : StoreState K A) → (config : Config) × (store ≡ new_store config) → IsAsTold rules store (nothing_told store.limit store.page_limit)
new_as_told {K} {A} rules store h = subst (λ (s : StoreState K A). IsAsTold rules s (nothing_told s.limit s.page_limit)) (sym h.1) (record {
  limit = refl;
  commits = refl;
  page_limit = refl;
  cursors = λ c. rw (none_given c) refl;
  open_cursors = refl;
  last = refl;
  dead = IsPermutation-refl [];
  finders = omega arith;
  pages = λ full. cc;
})

-- A conversation seen through another relation: if it holds for each line, it holds for all lines.
module _ {S T : Type 0} (answers : ℕ → S → List Placed → List ℕ → S → Type 0) (tells : ℕ → T → List Placed → List ℕ → T → Type 0) (Alike : S → T → Type 0)
    (step : (len : ℕ) (old new : S) (ts : List Placed) (text : List ℕ) (told : T) → answers len old ts text new → Alike old told → (after : T) × tells len told ts text after × Alike new after) where
  tells_line : (old new : S) (line text : List ℕ) (told : T) → AnswersLine answers old line text new → Alike old told → (after : T) × AnswersLine tells told line text after × Alike new after
  tells_line old new line text told (inl h) t = (told, inl (h.0, h.1, refl), subst (λ (s : S). Alike s told) (sym h.2) t)
  tells_line old new line text told (inr h) t =
      let r = step (length line) old new h.1 text told h.3 t in
      (r.0, inr (h.0, h.1, h.2, r.1), r.2)

  tells_lines : (old new : S) (lines : List (List ℕ)) (text : List ℕ) (told : T) → AnswersLines answers old lines text new → Alike old told → (after : T) × AnswersLines tells told lines text after × Alike new after
  tells_lines old new [] text told h t = (told, (h.0, refl), subst (λ (s : S). Alike s told) (sym h.1) t)
  tells_lines old new (line ∷ lines) text told h t =
      let l = tells_line old h.1 line h.0 told h.3 t in
      let r = tells_lines h.1 new lines h.2 l.0 h.4 l.2 in
      (r.0, (h.0, l.0, h.2, l.1, r.1, h.5), r.2)

  module _ (old new : S) (io : Exchange) (told : T) (t : Alike old told) where
    tells_all : AnsweredAll answers old new io → (after : T) × AnsweredAll tells told after io × Alike new after
    tells_all a =
        let x = tells_lines old new (a.lines ++ a.rest ∷ []) a.text told a.answers_lines t in (
          x.0,
          record { bytes = a.bytes; lines = a.lines; rest = a.rest; text = a.text; at_end = a.at_end; read = a.read; are_lines = a.are_lines; answers_lines = x.1; wrote = a.wrote },
          x.2,
        )

    tells_whole : AnsweredWhole answers old new io → (after : T) × AnsweredWhole tells told after io × Alike new after
    tells_whole a =
        let x = tells_lines old new a.lines a.text told a.answers_lines t in (
          x.0,
          record { bytes = a.bytes; lines = a.lines; rest = a.rest; text = a.text; read = a.read; are_lines = a.are_lines; answers_lines = x.1; wrote = a.wrote },
          x.2,
        )

    tells_first : AnsweredFirst answers old new io → (after : T) × AnsweredFirst tells told after io × Alike new after
    tells_first a =
        let x = tells_lines old new a.first a.text told a.answers_lines t in (
          x.0,
          record { bytes = a.bytes; lines = a.lines; rest = a.rest; first = a.first; others = a.others; text = a.text; read = a.read; are_lines = a.are_lines; parted = a.parted; answers_lines = x.1; wrote = a.wrote },
          x.2,
        )

module _ {K A : Type 0} (texts : Texts K A) (rules : Rules K A) where
  tells_tokens : (len : ℕ) (old new : StoreState K A) (ts : List Placed) (text : List ℕ) (told : Told K A) → AnswersTokens texts rules len old ts text new → IsAsTold rules old told → (after : Told K A) × AnswersTold texts rules len told ts text after × IsAsTold rules new after
  tells_tokens len old new ts text told a t = let r = a.replies told t in (r.0, (a.said, a.is_text, r.1), r.2)

  module _ (old new : StoreState K A) (io : Exchange) (is_new : (config : Config) × (old ≡ new_store config)) where
    pub told_all : AnsweredAll (AnswersTokens texts rules) old new io → ToldAll texts rules old new io
    told_all a = tells_all (AnswersTokens texts rules) (AnswersTold texts rules) (IsAsTold rules) tells_tokens old new io (nothing_told old.limit old.page_limit) (new_as_told rules old is_new) a

    pub told_whole : AnsweredWhole (AnswersTokens texts rules) old new io → ToldWhole texts rules old new io
    told_whole a = tells_whole (AnswersTokens texts rules) (AnswersTold texts rules) (IsAsTold rules) tells_tokens old new io (nothing_told old.limit old.page_limit) (new_as_told rules old is_new) a

    pub told_first : AnsweredFirst (AnswersTokens texts rules) old new io → ToldFirst texts rules old new io
    told_first a = tells_first (AnswersTokens texts rules) (AnswersTold texts rules) (IsAsTold rules) tells_tokens old new io (nothing_told old.limit old.page_limit) (new_as_told rules old is_new) a
