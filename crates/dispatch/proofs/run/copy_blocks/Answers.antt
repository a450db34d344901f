-- The blocks passed are of the run, and they are copied. Assumes nothing.
use mathlib.Core.Path.{◌≡◌, sym, ap, ◌∙◌}
use mathlib.Core.List.{List, []}
use Prim.Native.Nat.{ℕ, ◌+◌, ◌*◌, ◌≤◌}
use lib.ListN.{length, get_or, length-take, length-drop}
use Rattle.std.specs.Prelude.{Some}
use Rattle.std.specs.List.{flat_map}
use Rattle.dispatch.specs.Runs.{due_of, due_at}
use Rattle.dispatch.proofs.Runs.{chunk-at, block-long, due-same, due-differs, due-block, due-inside, run_block, going-none, going-copied, going_block}
use native.Mathlib.Omega.{arith}
use Rattle.dispatch.proofs.run.copy_blocks.Goals as goal

pub loop-k-init : goal.loop-k-init
loop-k-init c = going-none _ _ _ _

pub returns-then-ne : goal.returns-then-ne
returns-then-ne c =
    let a = c.args in
    let last =
    c.due_of.ensures
    ∙ ap (λ (b : List (List (List ℕ))). due_of (get_or (get_or b c.loop-k.k []) 15 []) a.flow) c.as_chunks.ensures.front
    ∙ due-block a.rows.now c.loop-k.k a.flow (omega (arith, c.as_chunks.ensures.front_len)) in
    record { some = going-copied _ _ _ _ c.loop-k.invariant; few_left = λ e. due-differs _ _ (sym c.if-ne.ensures) (last ∙ e) }

pub slice_bounds-copy_from_slice-end : goal.slice_bounds-copy_from_slice-end
slice_bounds-copy_from_slice-end c =
    let a = c.args in
    let last : due_at a.rows.now (16 * c.loop-k.k + 15) a.flow ≡ Some a.slot =
    sym
    (c.due_of.ensures
    ∙ ap (λ (b : List (List (List ℕ))). due_of (get_or (get_or b c.loop-k.k []) 15 []) a.flow) c.as_chunks.ensures.front
    ∙ due-block a.rows.now c.loop-k.k a.flow (omega (arith, c.as_chunks.ensures.front_len)))
    ∙ due-same _ _ (sym c.if-ne.ensures) in
    let fits : 96 * c.loop-k.k + 96 ≤ length c.loop-k.out =
    omega (arith, c.requires.fits (16 * c.loop-k.k + 16) (run_block _ _ _ _ c.requires (16 * c.loop-k.k) last), c.loop-k.invariant.kept) in
    omega (arith, fits)

pub slice_bounds-as_flattened-end : goal.slice_bounds-as_flattened-end
slice_bounds-as_flattened-end c =
    let long =
    ap (λ (b : List (List (List ℕ))). length (get_or b c.loop-k.k [])) c.as_chunks.ensures.front
    ∙ block-long c.args.rows.now c.loop-k.k (omega (arith, c.as_chunks.ensures.front_len)) in
    omega (arith, long)

pub copy_from_slice-requires : goal.copy_from_slice-requires
copy_from_slice-requires c =
    let a = c.args in
    let long =
    ap (λ (b : List (List (List ℕ))). length (get_or b c.loop-k.k [])) c.as_chunks.ensures.front
    ∙ block-long a.rows.now c.loop-k.k (omega (arith, c.as_chunks.ensures.front_len)) in
    let last : due_at a.rows.now (16 * c.loop-k.k + 15) a.flow ≡ Some a.slot =
    sym
    (c.due_of.ensures
    ∙ ap (λ (b : List (List (List ℕ))). due_of (get_or (get_or b c.loop-k.k []) 15 []) a.flow) c.as_chunks.ensures.front
    ∙ due-block a.rows.now c.loop-k.k a.flow (omega (arith, c.as_chunks.ensures.front_len)))
    ∙ due-same _ _ (sym c.if-ne.ensures) in
    let fits : 96 * c.loop-k.k + 96 ≤ length c.loop-k.out =
    omega (arith, c.requires.fits (16 * c.loop-k.k + 16) (run_block _ _ _ _ c.requires (16 * c.loop-k.k) last), c.loop-k.invariant.kept) in
    omega (arith, fits, long, c.as_flattened.ensures.len, length-take {A = ℕ}, length-drop {A = ℕ})

pub loop-k-preserved : goal.loop-k-preserved
loop-k-preserved c =
    let a = c.args in
    let last : due_at a.rows.now (16 * c.loop-k.k + 15) a.flow ≡ Some a.slot =
    sym
    (c.due_of.ensures
    ∙ ap (λ (b : List (List (List ℕ))). due_of (get_or (get_or b c.loop-k.k []) 15 []) a.flow) c.as_chunks.ensures.front
    ∙ due-block a.rows.now c.loop-k.k a.flow (omega (arith, c.as_chunks.ensures.front_len)))
    ∙ due-same _ _ (sym c.if-ne.ensures) in
    let block =
    ap (λ (b : List (List (List ℕ))). get_or b c.loop-k.k []) c.as_chunks.ensures.front
    ∙ chunk-at 16 _ a.rows.now c.loop-k.k (omega (arith, c.as_chunks.ensures.front_len)) in
    going_block _ _ _ _ _ _ _ (record { six = c.told-rows }) c.requires last (omega arith)
    (c.copy_from_slice.ensures.after ∙ c.as_flattened.ensures.value ∙ ap (flat_map (λ (r : List ℕ). r)) block) c.loop-k.invariant

pub returns : goal.returns
returns c =
    let a = c.args in
    let all : c.loop-k.k ≡ length c.as_chunks.result.0.now = omega arith in
    record {
      some = rw all at (going-copied _ _ _ _ c.loop-k.invariant);
      few_left = λ e. let i = due-inside a.rows.now _ a.flow a.slot e in absurd (omega (arith, c.as_chunks.ensures.front_len));
    }
