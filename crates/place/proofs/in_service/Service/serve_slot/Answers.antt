-- One slot: what is read of the area, what is given, and the rows that are put and counted in, or only counted in.
-- Assumes nothing.
use mathlib.Core.Path.{◌≡◌, sym, ◌∙◌}
use mathlib.Core.Bool.{true}
use native.Mathlib.Omega.{arith}
use denote.Param.{number}
use borrow.Author.Rules.{rules}
use Rattle.rules.specs.PseudoJobs.{work}
use Rattle.place.specs.contracts.in_service.Service.serve_slot.{LISTED-type}
use Rattle.place.specs.Service.{current_flow, pseudo_job}
use Rattle.place.proofs.Serving.{processors-within}
use Rattle.place.proofs.Given.{work-held, served-nothing, served-some, used-nothing, used-some}
use Rattle.place.proofs.in_service.Service.serve_slot.Goals as goal

pub returns-then-give-eq0-clause-listed : goal.returns-then-give-eq0-clause-listed
returns-then-give-eq0-clause-listed g c = λ _.
    let v = c.requires in
    served-nothing c.args.self.now.in_service c.args.left c.args.slot c.args.area.now v.left_within v.slot_within c.read-used.ensures c.give_of-give.ensures
    c.if-give-eq0.true

pub returns-then-give-eq0-clause-unlisted : goal.returns-then-give-eq0-clause-unlisted
returns-then-give-eq0-clause-unlisted g c = λ _.
    let v = c.requires in
    used-nothing c.args.self.now.in_service c.args.left c.args.slot c.args.area.now v.left_within v.slot_within c.read-used.ensures c.give_of-give.ensures
    c.if-give-eq0.true

pub overflow_sub-work : goal.overflow_sub-work
overflow_sub-work g c = omega (arith, c.work.ensures, work-held c.args.self.now.in_service, c.requires.left_within)

pub put_slot-next-requires : goal.put_slot-next-requires
put_slot-next-requires g c =
    let v = c.requires in
    let t : LISTED-type (number g.row.LISTED) ≡ true = search rules in
    let give = c.give_of-give.ensures in
    record {
      serving = v.serving t;
      units_within = omega (arith, give, c.work.ensures, work-held c.args.self.now.in_service, v.left_within);
      give_within = omega (arith, give);
      slot_within = v.slot_within;
      room = v.room t;
    }

pub returns-then-this-ne0-clause-listed : goal.returns-then-this-ne0-clause-listed
returns-then-this-ne0-clause-listed g c = λ _.
    let v = c.requires in
    let all : c.work.result ≡ work (current_flow c.args.self.now.book.now c.args.self.now.current) (pseudo_job c.args.self.now.current) = c.work.ensures ∙ sym (work-held c.args.self.now.in_service) in
    served-some c.args.self.now.in_service c.args.left c.args.slot c.args.area.now v.left_within v.slot_within c.read-used.ensures c.give_of-give.ensures
    (rw all at c.put_slot-next.ensures) c.write.ensures

pub returns-clause-unlisted : goal.returns-clause-unlisted
returns-clause-unlisted g c = λ _.
    let v = c.requires in
    used-some c.args.self.now.in_service c.args.left c.args.slot c.args.area.now v.left_within v.slot_within c.read-used.ensures c.give_of-give.ensures c.write.ensures

pub overflow_cast-give : goal.overflow_cast-give
overflow_cast-give g c = omega (arith, c.give_of-give.ensures, processors-within c.args.self.now.in_service)

pub overflow_add-used : goal.overflow_add-used
overflow_add-used g c = omega (arith, c.give_of-give.ensures, processors-within c.args.self.now.in_service)
