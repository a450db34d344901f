-- One pseudo-job, slot after slot, with rows or without. Assumes nothing.
use mathlib.Core.Path.{refl}
use native.Mathlib.Omega.{arith}
use Rattle.place.proofs.Given.{work-held}
use Rattle.place.proofs.Runs.{run-kept-first, run-kept-next, run-kept_stops, run-kept-done, used-kept-next, used-kept_stops, used-kept-done, some-work}
use Rattle.place.proofs.in_service.Service.place_run.Goals as goal

pub loop-slot-init : goal.loop-slot-init
loop-slot-init g c =
    let v = c.requires in
    let all = work-held c.args.self.now.in_service in
    record {
      listed = λ _. run-kept-first c.args.self.now.in_service v.limit_behind (omega (arith, all));
      unlisted = λ _ at. (at, run-kept-first c.args.self.now.in_service v.limit_behind (omega (arith, all)));
      some = omega (arith, all, some-work c.args.self.now.in_service);
      within = omega (arith, all);
    }

pub serve_slot-served-requires-clause-left_within : goal.serve_slot-served-requires-clause-left_within
serve_slot-served-requires-clause-left_within g c = c.loop-slot.invariant.within

pub serve_slot-served-requires-clause-room : goal.serve_slot-served-requires-clause-room
serve_slot-served-requires-clause-room g c = λ t.
    let k = c.loop-slot.invariant.listed t in
    omega (arith, k.next_to, k.slot_from, c.requires.room t, c.requires.limit_within)

pub returns-then-left-eq0-clause-listed : goal.returns-then-left-eq0-clause-listed
returns-then-left-eq0-clause-listed g c = λ t.
    let v = c.requires in
    let i = c.loop-slot.invariant in
    run-kept-done c.args.self.now.in_service
    (run-kept-next c.args.self.now.in_service (i.listed t) v.limit_within c.loop-slot-test.true (omega arith) (c.serve_slot-served.ensures.listed t)
    refl (omega arith) (omega arith)) (omega arith)

pub returns-then-left-eq0-clause-unlisted : goal.returns-then-left-eq0-clause-unlisted
returns-then-left-eq0-clause-unlisted g c = λ t.
    let v = c.requires in
    let i = c.loop-slot.invariant in
    used-kept-done c.args.self.now.in_service
    (used-kept-next c.args.self.now.in_service (i.unlisted t) v.limit_within c.loop-slot-test.true (omega arith) (c.serve_slot-served.ensures.unlisted t)
    refl (omega arith)) c.serve_slot-served.result.next (omega arith)

pub loop-slot-preserved : goal.loop-slot-preserved
loop-slot-preserved g c =
    let v = c.requires in
    let i = c.loop-slot.invariant in
    record {
      listed = λ t.
          run-kept-next c.args.self.now.in_service (i.listed t) v.limit_within c.loop-slot-test.true (omega arith) (c.serve_slot-served.ensures.listed t)
          (omega arith) (omega arith) (omega arith);
      unlisted = λ t.
          used-kept-next c.args.self.now.in_service (i.unlisted t) v.limit_within c.loop-slot-test.true (omega arith) (c.serve_slot-served.ensures.unlisted t)
          (omega arith) (omega arith);
      some = omega arith;
      within = omega arith;
    }

pub loop-slot-preserved-else-left-eq0 : goal.loop-slot-preserved-else-left-eq0
loop-slot-preserved-else-left-eq0 g c =
    let v = c.requires in
    let i = c.loop-slot.invariant in
    record {
      listed = λ t.
          run-kept-next c.args.self.now.in_service (i.listed t) v.limit_within c.loop-slot-test.true (omega arith) (c.serve_slot-served.ensures.listed t)
          (omega arith) (omega arith) (omega arith);
      unlisted = λ t.
          used-kept-next c.args.self.now.in_service (i.unlisted t) v.limit_within c.loop-slot-test.true (omega arith) (c.serve_slot-served.ensures.unlisted t)
          (omega arith) (omega arith);
      some = omega arith;
      within = omega arith;
    }

pub returns-clause-listed : goal.returns-clause-listed
returns-clause-listed g c = λ t.
    run-kept_stops c.args.self.now.in_service (c.loop-slot.invariant.listed t) c.loop-slot-test.false (omega arith)

pub returns-clause-unlisted : goal.returns-clause-unlisted
returns-clause-unlisted g c = λ t.
    used-kept_stops c.args.self.now.in_service (c.loop-slot.invariant.unlisted t) c.loop-slot-test.false (omega arith)
