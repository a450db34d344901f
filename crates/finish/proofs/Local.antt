-- What a function needs to lend a local: the cell of a local of type R becomes "h lies there", which is what can be
-- lent, and the other way round once the lender has it back. Assumes `Logic`.
--     lies_in      where P makes what R owns, and P h vs:   the cell with vs  ⊢  h lies there
--     lies_out     where what R owns shows P, and P tells the machine values:   h lies there  ⊢  the cell with
--                  `vals h`, and what R owns of h there
use Prim.Native.Nat.{ℕ}
use mathlib.Core.List.{List, [], ◌∷◌}
use seplogic.Ra.Ura.{Ura}
use base.Fraction.{full_share}
use mir.Val.{Val}
use base.Logic.{ent, sep}
use base.Fml.{fsep}
use types.Logic.{Logic, sem}
use types.Kit.{‵, ◌$◌, ◌∵◌, !, qed, move, fsplit, fjoin, fpick, fpack, frame, done}
use denote.RattleType.{RattleType}
use denote.Laws.{Rel, Tells, Shows, Makes}
use denote.Memory.{cell_at, mem, part_of}
use denote.Steps.{owned}
use denote.Struct.Steps.{spelt}

module _ {M : Type 1} {𝓤 : Ura M} (𝓛 : Logic 𝓤) (R : RattleType) (P : Rel R) where
  pub lies_in : Makes 𝓛 R P → (h : R.Denot) (vs : List Val) (b o : ℕ) → P h vs → ent 𝓤 (sem 𝓛 (cell_at full_share R.mir vs b o)) (sem 𝓛 ((mem R).own_at h b o))
  unfolding part_of
  lies_in mk h vs b o p =
      qed 𝓛 (‵ (cell_at full_share R.mir vs b o) ∷ []) ∵ owned ! R P mk h vs p $ move ! (1 ∷ 0 ∷ []) $ fjoin ! $ fpack ! (List Val) (λ us. fsep (cell_at full_share R.mir us b o) (R.own_val h us)) vs $ done !

  pub lies_out : Shows 𝓛 R P → (vals : R.Denot → List Val) → Tells R P vals → (h : R.Denot) (b o : ℕ)
      → ent 𝓤 (sem 𝓛 ((mem R).own_at h b o)) (sep 𝓤 (sem 𝓛 (cell_at full_share R.mir (vals h) b o)) (sem 𝓛 (R.own_val h (vals h))))
  unfolding part_of
  lies_out sh vals tl h b o = qed 𝓛 (‵ ((mem R).own_at h b o) ∷ []) ∵ fpick ! (λ vs. fsplit ! $ spelt ! R P sh vals tl full_share h vs b o $ frame ! $ done !)
