-- Runs of rows and their copies.
-- What is written behind what was written is one writing, so that copies one after the other are one copy. Behind the
-- first rows of a run the rest of it is a run of its own. What stands between two rows of a run belongs to it, so
-- that the last row of a block tells of all. Assumes nothing.
use mathlib.Core.Path.{◌≡◌, refl, sym, ap, ◌∙◌}
use mathlib.Core.Logic.{◌⊎◌, inl, inr}
use mathlib.Core.Bool.{Bool, true, false, not, false≢true}
use Prim.Native.Nat.{ℕ, zero, suc, ◌+◌, ◌*◌, ◌-◌, ◌/◌, ◌≤◌, ◌<◌}
use native.Mathlib.Omega.{arith}
use mathlib.Core.List.{List, [], ◌∷◌, ◌++◌}
use lib.ListN.{length, get_or, set, take, drop, length-drop, length-append}
use lib.Seq.{sets, length-sets}
use lib.Dec.{eqb}
use borrow.Author.Tests.{le-leb, lt-leb, eqb-true, eq-eqb, ne_eqb}
use borrow.Rule.Slice.PartMut.{put_mid}
use Rattle.std.specs.Prelude.{if◌then◌else◌, Option, Some, None}
use Rattle.std.specs.List.{flat_map}
use Rattle.std.specs.Option.{option_eq}
use Rattle.std.specs.Simd.{first_chunks}
use Rattle.std.proofs.lemmas.List.{append-nil, append_assoc, take_all, drop-drop, drop_all, get_or-take, get_or-drop, length-take, length-take-le}
use Rattle.std.proofs.lemmas.List.Edits.{sets-eq}
use Rattle.std.proofs.lemmas.List.Concat.{flat_map-append}
use Rattle.std.proofs.lemmas.Option.{none-some, same_Some}
use Rattle.std.proofs.Math.Seq.{take-add}
use Rattle.rules.specs.Fields.{byte, field}
use Rattle.rules.proofs.Laws.Division.{lt-or_ge}
use Rattle.rules.proofs.Laws.Walks.{last_or}
use Rattle.rules.proofs.Laws.Fields.{sets-append}
use Rattle.dispatch.specs.Runs.{due_of, due_at, RunOf, RunAsked, front, Copied, RunCopied}

-- ---- parts of a list
pub chunk-at : {X : Type 0} (n count : ℕ) (xs : List X) (k : ℕ) → k < count → get_or (first_chunks n count xs) k [] ≡ take n (drop (n * k) xs)
chunk-at n zero xs k h = absurd (omega arith)
chunk-at n (suc count) xs zero h = ap (λ (j : ℕ). take n (drop j xs)) (let z : 0 ≡ n * 0 = omega arith in z)
chunk-at n (suc count) xs (suc k) h =
    let z : n + n * k ≡ n * suc k = omega arith in
    chunk-at n count (drop n xs) k (omega arith) ∙ ap (take n) (drop-drop (n * k) n xs ∙ ap (λ (j : ℕ). drop j xs) z)

pub block-long : (rows : List (List ℕ)) (k : ℕ) → k < length rows / 16 → length (get_or (first_chunks 16 (length rows / 16) rows) k []) ≡ 16
block-long rows k h =
    ap length (chunk-at 16 (length rows / 16) rows k h) ∙ length-take-le 16 (drop (16 * k) rows) (omega (arith, length-drop (16 * k) rows))

-- what is left behind the first n
abbrev pub behind : {X : Type 0} → List X → ℕ → List X
behind xs n = take (length xs - n) (drop n xs)

pub rest_is : {X : Type 0} (xs : List X) (n : ℕ) → behind xs n ≡ drop n xs
rest_is xs n = take_all (length xs - n) (drop n xs) (omega (arith, length-drop n xs))

-- ---- the slot of a row
module _ (row : List ℕ) (flow : ℕ) where
  pub due-own : byte row 2 ≡ flow → due_of row flow ≡ Some (field 2 row 0)
  unfolding due_of
  due-own e = rw (eq-eqb (byte row 2) flow e) refl

  pub due-other : (byte row 2 ≡ flow → ⊥) → due_of row flow ≡ None
  unfolding due_of
  due-other h = rw (ne_eqb (byte row 2) flow h) refl

  -- what a slot tells
  pub due-tells : (slot : ℕ) → due_of row flow ≡ Some slot → (byte row 2 ≡ flow) × (field 2 row 0 ≡ slot)
  unfolding due_of
  due-tells slot h = go (eqb (byte row 2) flow) refl h
    where
      go : (t : Bool) → eqb (byte row 2) flow ≡ t → ◌≡◌ {A = Option ℕ} (if t then Some (field 2 row 0) else None) (Some slot) → (byte row 2 ≡ flow) × (field 2 row 0 ≡ slot)
      go true e l = (eqb-true (byte row 2) flow e, same_Some (field 2 row 0) slot l)
      go false e l = absurd (none-some slot l)

-- a slot compared with another
pub due-same : (o : Option ℕ) (slot : ℕ) → not (option_eq eqb o (Some slot)) ≡ false → o ≡ Some slot
due-same None slot e = absurd (false≢true (sym e))
due-same (Some x) slot e = ap Some (eqb-true x slot (go (eqb x slot) e))
  where
    go : (t : Bool) → not t ≡ false → t ≡ true
    go true h = refl
    go false h = absurd (false≢true (sym h))

pub due-differs : (o : Option ℕ) (slot : ℕ) → not (option_eq eqb o (Some slot)) ≡ true → o ≡ Some slot → ⊥
due-differs o slot e d =
    false≢true (sym (ap not (eq-eqb slot slot refl)) ∙ ap (λ (x : Option ℕ). not (option_eq eqb x (Some slot))) (sym d) ∙ e)

module _ (rows : List (List ℕ)) (at flow : ℕ) where
  pub due-there : at < length rows → due_at rows at flow ≡ due_of (get_or rows at []) flow
  unfolding due_at
  due-there h = rw (lt-leb (length rows) at h) refl

  pub due-past : length rows ≤ at → due_at rows at flow ≡ None
  unfolding due_at
  due-past h = rw (le-leb (length rows) at h) refl

  pub due-inside : (slot : ℕ) → due_at rows at flow ≡ Some slot → at < length rows
  due-inside slot h = go (lt-or_ge at (length rows))
    where
      go : (at < length rows) ⊎ (length rows ≤ at) → at < length rows
      go (inl l) = l
      go (inr l) = absurd (none-some slot (sym (due-past l) ∙ h))

-- among the first n rows
pub due-take : (rows : List (List ℕ)) (n m flow : ℕ) → m < length (take n rows) → due_of (get_or (take n rows) m []) flow ≡ due_at rows m flow
due-take rows n m flow l =
    ap (λ (r : List ℕ). due_of r flow) (get_or-take n rows m [] (omega (arith, length-take n rows)))
    ∙ sym (due-there rows m flow (omega (arith, length-take n rows)))

-- the last row of block k of sixteen
pub due-block : (rows : List (List ℕ)) (k flow : ℕ) → k < length rows / 16 →
    due_of (get_or (get_or (first_chunks 16 (length rows / 16) rows) k []) 15 []) flow ≡ due_at rows (16 * k + 15) flow
due-block rows k flow l =
    ap (λ (b : List (List ℕ)). due_of (get_or b 15 []) flow) (chunk-at 16 (length rows / 16) rows k l)
    ∙ ap (λ (r : List ℕ). due_of r flow) (get_or-take 16 (drop (16 * k) rows) 15 [] (omega arith) ∙ get_or-drop (16 * k) rows 15 [])
    ∙ sym (due-there rows (16 * k + 15) flow (omega arith))

-- behind the first n rows
pub due-drop : (rows : List (List ℕ)) (n m flow : ℕ) → due_at (drop n rows) m flow ≡ due_at rows (n + m) flow
due-drop rows n m flow = go (lt-or_ge m (length (drop n rows)))
  where
    long : length (drop n rows) ≡ length rows - n
    long = length-drop n rows

    go : (m < length (drop n rows)) ⊎ (length (drop n rows) ≤ m) → due_at (drop n rows) m flow ≡ due_at rows (n + m) flow
    go (inl l) =
        due-there (drop n rows) m flow l
        ∙ ap (λ (r : List ℕ). due_of r flow) (get_or-drop n rows m [])
        ∙ sym (due-there rows (n + m) flow (omega (arith, long)))
    go (inr l) = due-past (drop n rows) m flow l ∙ sym (due-past rows (n + m) flow (omega (arith, long)))

-- ---- runs
module _ (rows : List (List ℕ)) (flow slot : ℕ) where
  pub run_none : RunOf rows flow slot 0
  unfolding RunOf
  run_none m l = absurd (omega arith)

  pub run-next : (n : ℕ) → RunOf rows flow slot n → due_at rows n flow ≡ Some slot → RunOf rows flow slot (suc n)
  unfolding RunOf
  run-next n r e m l = last_or m n l (λ q. ap (λ k. due_at rows k flow) q ∙ e) (λ b. r m b)

  -- a run has no more rows than there are
  pub run-inside : (n : ℕ) → RunOf rows flow slot n → n ≤ length rows
  unfolding RunOf
  run-inside zero r = omega arith
  run-inside (suc n) r = omega (arith, due-inside rows n flow slot (r n (omega arith)))

  -- a run goes on where another one had got to
  pub run_of_joined : (n m : ℕ) → RunOf rows flow slot n → RunOf (drop n rows) flow slot m → RunOf rows flow slot (n + m)
  unfolding RunOf
  run_of_joined n m r q k l = go (lt-or_ge k n)
    where
      go : (k < n) ⊎ (n ≤ k) → due_at rows k flow ≡ Some slot
      go (inl b) = r k b
      go (inr b) =
          let p : n + (k - n) ≡ k = omega arith in
          rw p at (sym (due-drop rows n (k - n) flow) ∙ q (k - n) (omega arith))

  pub run_of-rest : (n m : ℕ) → RunOf rows flow slot (n + m) → RunOf (drop n rows) flow slot m
  unfolding RunOf
  run_of-rest n m r k l = due-drop rows n k flow ∙ r (n + k) (omega arith)

  -- where the last row of sixteen is no more of the run, the run is shorter
  pub fewer : (n : ℕ) → RunOf rows flow slot n → (due_at rows 15 flow ≡ Some slot → ⊥) → n < 16
  unfolding RunOf
  fewer n r last = go (lt-or_ge n 16)
    where
      go : (n < 16) ⊎ (16 ≤ n) → n < 16
      go (inl l) = l
      go (inr l) = absurd (last (r 15 (omega arith)))

  -- ---- room for a run
  module _ (room : ℕ) (p : RunAsked rows flow slot room) where
    -- behind its first rows there is room for the rest
    pub room_after : (n : ℕ) → RunOf rows flow slot n → RunAsked (drop n rows) flow slot (room - 6 * n)
    room_after n r = record {
      gapless = λ m e.
          let z : suc (n + m) ≡ n + suc m = omega arith in
          run_of-rest n (suc m) (rw z at (p.gapless (n + m) (sym (due-drop rows n m flow) ∙ e)));
      fits = λ m q. omega (arith, p.fits (n + m) (run_of_joined n m r q));
    }

    -- sixteen rows more, where the last of them belongs to the run
    pub run_block : (n : ℕ) → due_at rows (n + 15) flow ≡ Some slot → RunOf rows flow slot (n + 16)
    run_block n e = let z : suc (n + 15) ≡ n + 16 = omega arith in rw z at (p.gapless (n + 15) e)

-- ---- what is written
-- a write to a part is one from the part's start on
pub put_sets : (a k : ℕ) (xs ys : List ℕ) → length ys ≡ k → a + k ≤ length xs → put_mid a k xs ys ≡ sets xs a ys
put_sets a k xs ys e l =
    let n : a + length ys ≡ a + k = omega (arith, e) in
    sym
    (sets-eq ys xs a (omega (arith, e))
    ∙ ap (λ (j : ℕ). take a xs ++ ys ++ drop j xs) n
    ∙ append_assoc (take a xs) ys (drop (a + k) xs)
    ∙ ap (λ (t : List ℕ). take a xs ++ (ys ++ t)) (sym (drop-drop k a xs)))

-- what is written behind what was written from the start on
pub sets_behind : (out xs ys : List ℕ) (n : ℕ) → length xs ≡ n → sets (sets out 0 xs) n ys ≡ sets out 0 (xs ++ ys)
sets_behind out xs ys n e =
    let z : n ≡ 0 + length xs = omega (arith, e) in
    rw z (sets-append out 0 xs ys)

-- what is written to a list without places, and what is written behind the first place
sets_none : (ys : List ℕ) (k : ℕ) → sets [] k ys ≡ []
sets_none [] k = refl
sets_none (y ∷ ys) k = sets_none ys (suc k)

sets-cons : (x : ℕ) (l ys : List ℕ) (k : ℕ) → sets (x ∷ l) (suc k) ys ≡ x ∷ sets l k ys
sets-cons x l [] k = refl
sets-cons x l (y ∷ ys) k = sets-cons x (set l k y) ys (suc k)

-- what is written to the start of the rest, whether there is room for it or not
sets_drop : (l ys : List ℕ) (n : ℕ) → take n l ++ sets (drop n l) 0 ys ≡ sets l n ys
sets_drop l ys zero = refl
sets_drop [] ys (suc n) = sets_none ys 0 ∙ sym (sets_none ys (suc n))
sets_drop (x ∷ l) ys (suc n) = ap (x ∷◌) (sets_drop l ys n) ∙ sym (sets-cons x l ys n)

pub sets_rest : (l ys zs : List ℕ) (n k : ℕ) → k ≡ length l - n → zs ≡ sets (drop n l) 0 ys → put_mid n k l zs ≡ sets l n ys
sets_rest l ys zs n k e is =
    let none : drop k (drop n l) ≡ [] = drop_all k (drop n l) (omega (arith, length-drop n l)) in
    ap (λ (t : List ℕ). take n l ++ (zs ++ t)) none ∙ ap (take n l ++◌) (append-nil zs ∙ is) ∙ sets_drop l ys n

-- ---- copies, one behind the other
pub front-add : (rows : List (List ℕ)) (n m : ℕ) → front rows (n + m) ≡ front rows n ++ front (drop n rows) m
front-add rows n m = ap (flat_map (λ (r : List ℕ). r)) (take-add n m rows) ∙ flat_map-append (λ (r : List ℕ). r) (take n rows) (take m (drop n rows))

pub copied-length : {rows : List (List ℕ)} {flow slot n : ℕ} {out out' : List ℕ} → Copied rows flow slot out out' n → length out' ≡ length out
copied-length {rows} {n = n} {out = out} p = ap length p.copied ∙ length-sets out 0 (front rows n)

-- all of a run
pub run-copied : {rows : List (List ℕ)} {flow slot n : ℕ} {out out' : List ℕ} → Copied rows flow slot out out' n → (due_at rows n flow ≡ Some slot → ⊥) →
    RunCopied rows flow slot out out' n
run-copied p ends = record { run = record { each = p.each; ends = ends }; copied = p.copied }

-- each row has six bytes
pub record SixEach (rows : List (List ℕ)) : Type 0 where
  pub six : (k : ℕ) → k < length rows → length (get_or rows k []) ≡ 6

front-next : (rows : List (List ℕ)) (n : ℕ) → n < length rows → front rows (suc n) ≡ front rows n ++ get_or rows n []
front-next [] n h = absurd (omega arith)
front-next (r ∷ rs) zero h = append-nil r
front-next (r ∷ rs) (suc n) h = ap (r ++◌) (front-next rs n (omega arith)) ∙ sym (append_assoc r (front rs n) (get_or rs n []))

pub front_length : (rows : List (List ℕ)) → SixEach rows → (n : ℕ) → n ≤ length rows → length (front rows n) ≡ 6 * n
front_length rows six zero h = refl
front_length rows six (suc n) h =
    ap length (front-next rows n (omega arith))
    ∙ length-append (front rows n) (get_or rows n [])
    ∙ omega (arith, front_length rows six n (omega arith), six.six n (omega arith))

module _ {rows : List (List ℕ)} {flow slot n : ℕ} {out mid : List ℕ} (p : Copied rows flow slot out mid n) where
  -- behind a copy of its first rows there is room for the rest of a run
  pub rest_asked : RunAsked rows flow slot (length out) → RunAsked (behind rows n) flow slot (length (behind mid (6 * n)))
  rest_asked asked =
      rw (rest_is rows n, rest_is mid (6 * n), length-drop (6 * n) mid, copied-length p)
      (room_after rows flow slot (length out) asked n p.each)

  -- so many bytes are copied
  pub copied-size : SixEach rows → 6 * n ≡ length (front rows n)
  copied-size six = sym (front_length rows six n (run-inside rows flow slot n p.each))

  -- and a copy of the rest behind the k bytes that are copied makes one copy of both
  module _ {m k : ℕ} {rest : List ℕ} (size : k ≡ length (front rows n)) where
    pub copied-append : Copied (behind rows n) flow slot (behind mid k) rest m →
        Copied rows flow slot out (put_mid k (length mid - k) mid rest) (n + m)
    copied-append q =
        let r : Copied (drop n rows) flow slot (drop k mid) rest m = rw (rest_is rows n, rest_is mid k) at q in
        record {
          each = run_of_joined rows flow slot n m p.each r.each;
          copied =
              sets_rest mid (front (drop n rows) m) rest k (length mid - k) refl r.copied
              ∙ ap (λ (o : List ℕ). sets o k (front (drop n rows) m)) p.copied
              ∙ sets_behind out (front rows n) (front (drop n rows) m) k (sym size)
              ∙ ap (sets out 0) (sym (front-add rows n m));
        }

    pub run-copied-behind : RunCopied (behind rows n) flow slot (behind mid k) rest m →
        RunCopied rows flow slot out (put_mid k (length mid - k) mid rest) (n + m)
    run-copied-behind q =
        let ends : due_at (drop n rows) m flow ≡ Some slot → ⊥ = rw (rest_is rows n) at q.run.ends in
        run-copied (copied-append (record { each = q.run.each; copied = q.copied })) (λ d. ends (due-drop rows n m flow ∙ d))

-- ---- a loop that copies a run
-- n rows of it are copied so far
pub record Going (rows : List (List ℕ)) (flow slot : ℕ) (out₀ out : List ℕ) (n : ℕ) : Type 0 where
  pub kept : length out ≡ length out₀
  pub each : RunOf rows flow slot n
  pub copied : out ≡ sets out₀ 0 (front rows n)

module _ (rows : List (List ℕ)) (flow slot : ℕ) (out₀ : List ℕ) where
  pub going-none : Going rows flow slot out₀ out₀ 0
  going-none = record { kept = refl; each = run_none rows flow slot; copied = refl }

  pub going-copied : {out : List ℕ} {n : ℕ} → Going rows flow slot out₀ out n → Copied rows flow slot out₀ out n
  going-copied g = record { each = g.each; copied = g.copied }

  -- m rows more, behind the k bytes that are copied
  pub going_more : {out out' : List ℕ} (n m k : ℕ) → k ≡ length (front rows n) → RunOf rows flow slot (n + m) →
      out' ≡ sets out k (front (drop n rows) m) → Going rows flow slot out₀ out n → Going rows flow slot out₀ out' (n + m)
  going_more {out} {out'} n m k size each e g =
      let copied : out' ≡ sets out₀ 0 (front rows (n + m)) =
      e
      ∙ ap (λ (o : List ℕ). sets o k (front (drop n rows) m)) g.copied
      ∙ sets_behind out₀ (front rows n) (front (drop n rows) m) k (sym size)
      ∙ ap (sets out₀ 0) (sym (front-add rows n m)) in
      record { kept = ap length copied ∙ length-sets out₀ 0 (front rows (n + m)); each = each; copied = copied }

  -- where each has six bytes, and these are put where there is room for them
  pub going_put : {out : List ℕ} (n m : ℕ) (bytes : List ℕ) → SixEach rows → 6 * (n + m) ≤ length out₀ → RunOf rows flow slot (n + m) →
      bytes ≡ front (drop n rows) m → Going rows flow slot out₀ out n → Going rows flow slot out₀ (put_mid (6 * n) (6 * m) out bytes) (n + m)
  going_put {out} n m bytes six fits each is g =
      let inside = run-inside rows flow slot (n + m) each in
      let long = front_length rows six n (omega arith) in
      let whole = front_length rows six (n + m) inside in
      let both = ap length (front-add rows n m) ∙ length-append (front rows n) (front (drop n rows) m) in
      let put = put_sets (6 * n) (6 * m) out bytes (ap length is ∙ omega (arith, long, whole, both)) (omega (arith, g.kept)) in
      going_more n m (6 * n) (sym long) each (put ∙ ap (sets out (6 * n)) is) g

  -- one row more
  pub going_row : {out : List ℕ} (n k : ℕ) (row : List ℕ) → SixEach rows → RunAsked rows flow slot (length out₀) → due_at rows n flow ≡ Some slot →
      k ≡ 6 → row ≡ get_or rows n [] → Going rows flow slot out₀ out n → Going rows flow slot out₀ (put_mid (6 * n) k out row) (n + 1)
  going_row {out} n k row six asked due six_is is g =
      let z : suc n ≡ n + 1 = omega arith in
      let each : RunOf rows flow slot (n + 1) = rw z at (run-next rows flow slot n g.each due) in
      let inside = due-inside rows n flow slot due in
      let first : n + 0 ≡ n = omega arith in
      let one : row ≡ front (drop n rows) 1 =
      is
      ∙ sym
      (front-next (drop n rows) 0 (omega (arith, length-drop n rows))
      ∙ get_or-drop n rows 0 []
      ∙ ap (λ (j : ℕ). get_or rows j []) first) in
      rw six_is (going_put n 1 row six (asked.fits (n + 1) each) each one g)

  -- a block more
  pub going_block : {out : List ℕ} (k size : ℕ) (bytes : List ℕ) → SixEach rows → RunAsked rows flow slot (length out₀) →
      due_at rows (16 * k + 15) flow ≡ Some slot → size ≡ 96 → bytes ≡ front (drop (16 * k) rows) 16 → Going rows flow slot out₀ out (16 * k) →
      Going rows flow slot out₀ (put_mid (96 * k) size out bytes) (16 * (k + 1))
  going_block {out} k size bytes six asked due size_is is g =
      let at : 96 * k ≡ 6 * (16 * k) = omega arith in
      let z : 16 * (k + 1) ≡ 16 * k + 16 = omega arith in
      let each = run_block rows flow slot (length out₀) asked (16 * k) due in
      rw (size_is, at, z) (going_put (16 * k) 16 bytes six (asked.fits (16 * k + 16) each) each is g)
