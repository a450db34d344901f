-- What proofs of `step` and `place_next` share that walk the MIR by hand: beside the state both are passed the turns of
-- a book in a calendar and the work area, and both ask and ensure the same.
--     Asked, Said     what is asked of the turns, the work area and the state, and what is ensured of what the step
--                     comes to and the last area
--     by-walk         a function's walk over the table in which its calls mean γ is its theorem at its key k
-- Assumes nothing: `by-walk` is for every `Model` and every `Running`.
use Prim.Native.Nat.{ℕ}
use mathlib.Core.List.{List}
use Rattle.std.specs.Prelude.{Result}
use Rattle.rules.specs.declared.Fault.{Fault}
use seplogic.Ra.Ura.{Ura}
use mir.Syntax.{Fn}
use prog.Model.{Model}
use prog.Routine.{Callee, Env}
use prog.Wp.{WpFn, Closed}
use types.Logic.{Logic}
use contract.Running.{Running, tables, tables_of}
use sound.WpLaws.{FmC, fm_of, WpFn-mono}
use denote.Triple.Spec.{triple_of}
use denote.Triple.Statement.{Triple}
use denote.Triple.Clauses.{Ended, Clauses, closing}
use denote.Triple.Table.{entered}
use denote.Triple.Walked.{Stays, AllGo, Walks, walk_Meets}
use Rattle.place.specs.declared.in_turn.Turns.{Turns}
use Rattle.place.specs.Turns.{whole_book}
use Rattle.finish.specs.Flows.{NextAsked, NextPlaced}
use Rattle.finish.specs.declared.Placement.{Placement}

module _ (turns : Turns) (work : List ℕ) (h : Placement) where
  abbrev pub Asked : Type 0
  Asked = NextAsked (whole_book turns.book.now turns.calendar.now) work h

  abbrev pub Said : Result Placement Fault → List ℕ → Type 0
  Said r ys = NextPlaced (whole_book turns.book.now turns.calendar.now) h work ys r

module _ {M : Type 1} {𝓤 : Ura M} (𝓛 : Logic 𝓤) (𝓜 : Model 𝓤 𝓛.H) (𝓡 : Running 𝓤 𝓛.H 𝓜) (T : Ended) (hs : Stays T.signature.params T.kept) (γ : Env) (k : Callee) (e : Fn) where
  open 𝓛 use {H}

  pub by-walk : AllGo 𝓛 T.signature.lifetimes T.signature.params T.kept hs → Closed 𝓤 H (tables 𝓤 H 𝓜 𝓡 γ).C (tables 𝓤 H 𝓜 𝓡 γ).Λ k e → (c : Clauses 𝓤 T)
      → (FmC 𝓤 H 𝓛.laws (tables 𝓤 H 𝓜 𝓡 γ).C → Walks 𝓛 T hs (WpFn 𝓤 H (tables 𝓤 H 𝓜 𝓡 γ).C (tables 𝓤 H 𝓜 𝓡 γ).Λ e) c)
      → Triple 𝓤 ((tables 𝓤 H 𝓜 𝓡 γ).C k) (triple_of 𝓛 T.signature (closing 𝓛 T c))
  unfolding tables_of
  by-walk gs closed c walks =
      let L = 𝓛.laws in
      let 𝓣 = tables_of 𝓤 H 𝓜 (tables 𝓤 H 𝓜 𝓡 γ) in
      entered 𝓤 H (triple_of 𝓛 T.signature (closing 𝓛 T c)) (tables 𝓤 H 𝓜 𝓡 γ).C (tables 𝓤 H 𝓜 𝓡 γ).Λ k e closed
      (walk_Meets 𝓛 T hs gs c (WpFn 𝓤 H (tables 𝓤 H 𝓜 𝓡 γ).C (tables 𝓤 H 𝓜 𝓡 γ).Λ e) (WpFn-mono 𝓤 H L 𝓣 e) (walks (fm_of 𝓤 H L 𝓣)))
