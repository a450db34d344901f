-- Laws of text put into a lent slice: pieces put one after the other are one piece, and how much room they take. Assumes
-- nothing.
use mathlib.Core.Path.{◌≡◌, refl, sym, ap, subst, ◌∙◌}
use Prim.Native.Nat.{ℕ, ◌+◌, ◌≤◌, ◌<◌}
use native.Mathlib.Numerals.{add-one}
use native.Mathlib.Omega.{arith}
use mathlib.Core.List.{List, [], ◌∷◌, ◌++◌, append_assoc}
use lib.ListN.{length, set, get_or, take, length-append}
use lib.Seq.{sets, length-sets, take-suc, length-take-le}
use Rattle.rules.specs.declared.PlanAnswer.{PlanAnswer}
use Rattle.rules.specs.Walks.{join_from}
use Rattle.rules.specs.Rows.{Row}
use Rattle.rules.specs.Text.{decimal, word_slot, word_flow, word_job, word_take, word_refused, word_end, row_line, refusal_line}
use Rattle.rules.proofs.Laws.Fields.{sets-append}
use Rattle.rules.proofs.Laws.Walks.{join_last}
use Rattle.plan_text.specs.Put.{TextPut, pair_line}
use Rattle.plan_text.specs.Lines.{line_at, first_lines}
use Rattle.plan_text.proofs.Pieces.{digits_most}
use Rattle.plan_text.proofs.LineCases.{text-whole}

-- a piece put after another: both are one piece
pub put-after : {l m r a b : List ℕ} {at k next : ℕ} → TextPut l at a m k → TextPut m k b r next → TextPut l at (a ++ b) r next
put-after {l} {m} {r} {a} {b} {at} {k} {next} p q = record {
  stored =
      q.stored ∙ ap (λ (x : List ℕ). sets x k b) p.stored ∙ ap (λ (n : ℕ). sets (sets l at a) n b) p.offset_after_is ∙ sets-append l at a b;
  offset_after_is = q.offset_after_is ∙ omega (arith, length-append a b, p.offset_after_is);
}

-- a piece is its bytes, however they are written
pub put_as : {l m a b : List ℕ} {at k : ℕ} → a ≡ b → TextPut l at a m k → TextPut l at b m k
put_as {l} {m} {a} {b} {at} {k} e p = subst (λ (w : List ℕ). TextPut l at w m k) e p

-- putting keeps the slice's length
pub put-length : {l m a : List ℕ} {at k : ℕ} → TextPut l at a m k → length m ≡ length l
put-length {l} {m} {a} {at} p = ap length p.stored ∙ length-sets l at a

-- the stores of the first i + 1 bytes of a word: those of its first i, and the next
pub sets-take-more : (l : List ℕ) (at : ℕ) (word : List ℕ) (i : ℕ) → i < length word →
    set (sets l at (take i word)) (at + i) (get_or word i 0) ≡ sets l at (take (i + 1) word)
sets-take-more l at word i h =
    ap (λ (k : ℕ). set (sets l at (take i word)) (at + k) (get_or word i 0)) (sym (length-take-le i word (omega arith)))
    ∙ sets-append l at (take i word) (get_or word i 0 ∷ [])
    ∙ ap (λ (w : List ℕ). sets l at w) (sym (take-suc word i 0 h) ∙ ap (λ (k : ℕ). take k word) (sym (add-one i)))

-- a number below 2 ^ 32 has at most ten digits: where a word and its number end, and the slice's length, kept
pub number-room : (word : List ℕ) (x : ℕ) {l m : List ℕ} {at k : ℕ} → TextPut l at (word ++ decimal x) m k →
    (k ≤ at + (length word + 10)) × (length m ≡ length l)
number-room word x p = (omega (arith, p.offset_after_is, length-append word (decimal x), digits_most 9 x), put-length p)

-- ---- the lines, from their pieces
pub put-pair_line : (first : List ℕ) (x : ℕ) (second : List ℕ) (y : ℕ) {l m n r : List ℕ} {at j k next : ℕ} →
    TextPut l at (first ++ decimal x) m j → TextPut m j (second ++ decimal y) n k → TextPut n k word_end r next →
    TextPut l at (pair_line first x second y) r next
put-pair_line first x second y p q e = put_as (simp append_assoc) (put-after p (put-after q e))

pub put-row : (row : Row) {l m n r : List ℕ} {at j k next : ℕ} →
    TextPut l at (word_slot ++ decimal row.slot) m j → TextPut m j (word_flow ++ decimal row.flow) n k →
    TextPut n k (pair_line word_job row.job word_take row.processors) r next → TextPut l at (row_line row) r next
unfolding row_line
put-row row p q e = put_as (simp append_assoc) (put-after p (put-after q e))

pub put-refusal : (number flow job : ℕ) {l m r : List ℕ} {at j next : ℕ} →
    TextPut l at (word_refused ++ decimal number) m j → TextPut m j (pair_line word_flow flow word_job job) r next →
    TextPut l at (refusal_line number flow job) r next
unfolding refusal_line
put-refusal number flow job p q = put_as (simp append_assoc) (put-after p q)

-- ---- lines put one after the other
pub put-none : (table : List ℕ) (a : PlanAnswer) {l : List ℕ} → TextPut l 0 (first_lines table a 0) l 0
unfolding join_from
put-none table a = record { stored = refl; offset_after_is = refl }

pub put-more : (table : List ℕ) (a : PlanAnswer) (n : ℕ) {l m r : List ℕ} {at next : ℕ} →
    TextPut l 0 (first_lines table a n) m at → TextPut m at (line_at table a n) r next → TextPut l 0 (first_lines table a (n + 1)) r next
put-more table a n p q =
    put_as (sym (join_last (λ k. line_at table a k) n) ∙ ap (λ (k : ℕ). first_lines table a k) (sym (add-one n))) (put-after p q)

-- a line by its kind, and the text of all
pub ruleset lines_put = (put_as, text-whole)
