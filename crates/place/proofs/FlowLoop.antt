-- One flow from cut to cut: what is kept when the runs before ideal slot t are placed, and what comes of it when the
-- path is reached or the limit of rule 6. Assumes nothing.
use mathlib.Core.Path.{◌≡◌, refl, sym, ap, subst, ◌∙◌}
use Prim.Native.Nat.{ℕ, ◌+◌, ◌*◌, ◌-◌, ◌≤◌, ◌<◌}
use native.Mathlib.Nat.{sub-zero, le_trans}
use native.Mathlib.Omega.{arith}
use mathlib.Core.Bool.{Bool}
use mathlib.Core.List.{List, [], ◌∷◌, ◌++◌, append-nil}
use lib.ListN.{length, take}
use lib.Seq.{length-take-le}
use Rattle.rules.specs.Limits.{slots}
use Rattle.rules.specs.Verdicts.{Pass}
use Rattle.rules.specs.Book.{Flow, Book, flow_count, job_count, flow_of, job_of, FlowInRange}
use Rattle.rules.specs.Reading.{book_of, book_fault}
use Rattle.rules.specs.Ideal.{path, take_of}
use Rattle.rules.specs.PseudoJobs.{PseudoJob, runs, chain, rate, sum_over}
use Rattle.rules.specs.Rows.{Row, used_in, finish_of, work_used}
use Rattle.rules.specs.Placing.{Progress, progress, flow_rows, free_processors}
use Rattle.rules.proofs.Reading.Caps.{used_in-range}
use Rattle.rules.proofs.Reading.Passing.{pass_in-range}
use Rattle.rules.proofs.Chains.Ideal.{Sized, in-range-sized, end_is_start_plus-duration, end-within-path, duration-positive}
use Rattle.rules.proofs.Chains.PseudoJobs.{slot-rate-positive, chain_widths, chain_live}
use Rattle.rules.proofs.Placing.Usable.{none-free-before, free-within}
use Rattle.rules.proofs.Placing.Greedy.{not-begun}
use Rattle.rules.proofs.Placing.PlannedRows.{no-rows_yet}
use Rattle.rules.proofs.Rows.FlowRows.{used-append}
use Rattle.std.proofs.lemmas.List.{get_or-take, length-map, take-map}
use Rattle.book.specs.declared.JobRecord.{JobRecord}
use Rattle.chain.specs.declared.IdealJob.{IdealJob}
use Rattle.chain.specs.declared.Part.{Part}
use Rattle.chain.specs.declared.Run.{Run}
use Rattle.chain.specs.Alone.{names_in, takes_in, JobsFit, JobsOf, ChainOf}
use Rattle.chain.specs.Runs.{RunAt, PartsOf, parts_below}
use Rattle.chain.proofs.Alone.{jobs-fit, path-most}
use Rattle.chain.proofs.Parts.{part-before}
use Rattle.chain.proofs.Cuts.{parts-counted}
use Rattle.place.specs.declared.Current.{Current}
use Rattle.place.specs.declared.Placed.{Placed}
use Rattle.std.specs.Prelude.{Option, Some, None}
use Rattle.place.specs.Service.{PartsHeld, pseudo_job}
use Rattle.place.specs.Flows.{standing, Beside, rows_up_to, Underway, UnderwayBy, WorkLeft, RunPlaced, OffsetIf, RunGoes, new_rows, FlowDone, FlowInfeasible, FlowPlaced, FlowHeld}
use Rattle.place.proofs.Output.{put-none, put-same-length}
use Rattle.place.proofs.Steps.{stays-finished, no-more_rows, own-rows-within-free}

-- the flow when the runs before ideal slot t are placed, in the slots from its release to `slot`
pub record FlowSoFar (b : Book) (f : ℕ) (x : Beside) (t slot : ℕ) (out area : List ℕ) (next : ℕ) : Type 0 where
  pub under : Underway b f x slot (standing (runs (flow_of b f) (path (flow_of b f) - t) t) 0) out area next
  pub finish : 0 < t → finish_of (rows_up_to b f x slot) f ≡ slot

-- what flow f is placed beside by a call that is lent this output
abbrev pub beside : List Row → List ℕ → List ℕ → ℕ → Beside
beside rows bytes out at = record { rows = rows; area = bytes; output = out; offset = at }

module _ (b : Book) (f : ℕ) where
  abbrev w : Flow
  w = flow_of b f

  -- at its release it stands at its begin: before, nothing is free for it
  pub flow_begins : Sized w → (rows : List Row) (bytes out area : List ℕ) (at : ℕ) → area ≡ work_used slots rows bytes →
      ((u : ℕ) → used_in rows u ≤ b.processors) →
      FlowSoFar b f (beside rows bytes out at) 0 w.release out area at
  flow_begins sized rows bytes out area at e within = record {
    under = record {
      within = within;
      released = omega arith;
      stands = first_progress;
      area_used = e ∙ ap (λ all. work_used slots all bytes) (sym (ap (rows ++◌) no_rows ∙ append-nil rows));
      put = rw no_rows (put-none out at);
    };
    finish = λ l. absurd (omega arith);
  }
    where
      none_free : (t : ℕ) → t < w.release → free_processors b f rows t ≡ 0
      none_free = none-free-before b f rows

      no_rows : flow_rows w f (free_processors b f rows) w.release ≡ []
      no_rows = no-rows_yet w f (free_processors b f rows) w.release none_free

      first_progress : progress w (free_processors b f rows) w.release ≡ standing (runs w (path w - 0) 0) 0
      first_progress =
          not-begun w (free_processors b f rows) (chain_live w sized) w.release none_free
          ∙ (unfold chain in ap (λ (n : ℕ). standing (runs w n 0) 0) (sym (sub-zero (path w))))

  -- all runs are placed
  pub flow-done : (rows : List Row) (bytes out₀ out area : List ℕ) (at limit t slot next : ℕ) → Sized w → job_count w ≤ 64 → 0 < path w → path w ≤ t →
      slot ≤ limit → limit ≤ 8192 →
      next ≤ at + 384 * slot → FlowSoFar b f (beside rows bytes out₀ at) t slot out area next →
      FlowDone b f limit rows bytes out₀ at out area slot next
  flow-done rows bytes out₀ out area at limit t slot next sized few some over l most room so_far_lem =
      record {
        finished = ap (λ (g : Progress). g.left) at_limit;
        put = rw same so_far_lem.under.put;
        area_used = so_far_lem.under.area_used ∙ ap (λ more. work_used slots (rows ++ more) bytes) (sym same);
        ends = sym (ap (λ more. finish_of more f) same ∙ so_far_lem.finish (omega arith));
        within = λ u. omega (arith, used-append rows (new_rows b f limit rows) u, so_far_lem.under.within u, own u);
        next_within = omega arith;
        finish_within = l;
      }
    where
      nothing_left : progress w (free_processors b f rows) slot ≡ standing [] 0
      nothing_left =
          let z : path w - t ≡ 0 = omega arith in
          so_far_lem.under.stands ∙ ap (λ (n : ℕ). standing (runs w n t) 0) z ∙ (unfold runs in refl)

      rest : slot + (limit - slot) ≡ limit
      rest = omega arith

      at_limit : progress w (free_processors b f rows) limit ≡ standing [] 0
      at_limit = ap (progress w (free_processors b f rows)) (sym rest) ∙ stays-finished w f (free_processors b f rows) slot (limit - slot) 0
          nothing_left

      same : new_rows b f limit rows ≡ flow_rows w f (free_processors b f rows) slot
      same = ap (flow_rows w f (free_processors b f rows)) (sym rest) ∙ no-more_rows w f (free_processors b f rows) slot (limit - slot) 0
          nothing_left

      own : (u : ℕ) → used_in (new_rows b f limit rows) u ≤ b.processors - used_in rows u
      own u = le_trans (own-rows-within-free w f (free_processors b f rows) sized limit u) (free-within b f rows u)

  -- the limit is reached and work is left
  pub flow_stops : (rows : List Row) (bytes out₀ out area : List ℕ) (at limit : ℕ) →
      WorkLeft b f (beside rows bytes out₀ at) limit out area → FlowInfeasible b f limit rows bytes out₀ out area
  flow_stops rows bytes out₀ out area at limit left = record {
    unfinished = λ e.
        let none : left.current ∷ left.later ≡ [] = sym (ap (λ (g : Progress). g.left) left.under.stands) ∙ e in
        let z : ◌≡◌ {A = ℕ} (length (left.current ∷ left.later)) 0 = ap length none in
        omega arith;
    others = rows ++ flow_rows w f (free_processors b f rows) limit;
    area_used = left.under.area_used;
    length_kept = put-same-length out₀ out at left.next _ left.under.put;
  }

-- ---- the loop over cuts: what is kept from its begin on
pub record FlowKept (listed : Bool) (b : Book) (f at limit : ℕ) (out₀ area₀ out area : List ℕ) (t slot next : ℕ) : Type 0 where
  pub offset : ℕ
  pub offset_if : OffsetIf listed offset next
  pub offset_to : offset ≤ at + 384 * slot
  pub cut_to : t ≤ path (flow_of b f)
  pub slot_to : slot ≤ limit
  pub out_length : length out ≡ length out₀
  pub area_length : length area ≡ length area₀
  pub so_far_lem : (rows : List Row) (bytes : List ℕ) → area₀ ≡ work_used slots rows bytes → ((u : ℕ) → used_in rows u ≤ b.processors) →
      FlowSoFar b f (beside rows bytes out₀ at) t slot out area offset

-- ---- a flow that is read out of its book, on endless processors
flow_in-range : (s : List ℕ) (f : ℕ) → book_fault s ≡ Pass → f < flow_count (book_of s) → FlowInRange (book_of s).processors (flow_of (book_of s) f)
flow_in-range s f passes flow_in_is = used_in-range (pass_in-range s passes) f flow_in_is

path-positive : (s : List ℕ) (f : ℕ) → book_fault s ≡ Pass → f < flow_count (book_of s) → 0 < path (flow_of (book_of s) f)
path-positive s f passes flow_in_is =
    let w = flow_of (book_of s) f in
    let range = flow_in-range s f passes flow_in_is in
    let j = range.each_job 0 range.jobs_least in
    omega (
      arith,
      end-within-path w 0 range.jobs_least,
      end_is_start_plus-duration w 0,
      duration-positive (job_of w 0) j.cap_least j.size_least,
    )

-- where the limit comes before the release, the flow has not begun
pub flow-not-begun : (s : List ℕ) (f limit : ℕ) → book_fault s ≡ Pass → f < flow_count (book_of s) → limit < (flow_of (book_of s) f).release →
    (rows : List Row) (bytes out area : List ℕ) → area ≡ work_used slots rows bytes → FlowInfeasible (book_of s) f limit rows bytes out out area
flow-not-begun s f limit passes flow_in_is l rows bytes out area used = record {
  unfinished = λ e.
      let none : chain w ≡ [] = sym (ap (λ (g : Progress). g.left) begun) ∙ e in
      let no-path : path w ≡ 0 = sym (chain_widths w) ∙ ap (sum_over (λ p. p.width)) none ∙ (unfold sum_over in refl) in
      omega (arith, path-positive s f passes flow_in_is);
  others = rows;
  area_used = used;
  length_kept = refl;
}
  where
    w : Flow
    w = flow_of (book_of s) f

    begun : progress w (free_processors (book_of s) f rows) limit ≡ standing (chain w) 0
    begun =
        not-begun w (free_processors (book_of s) f rows) (chain_live w (in-range-sized (flow_in-range s f passes flow_in_is))) limit
        (λ t h. none-free-before (book_of s) f rows t (omega arith))

-- what the chain of a flow asks of its records
pub records-fit : (s : List ℕ) (f : ℕ) (jobs : List JobRecord) → book_fault s ≡ Pass → f < flow_count (book_of s) → JobsOf (flow_of (book_of s) f) jobs →
    JobsFit jobs
records-fit s f jobs passes flow_in_is of =
    jobs-fit (book_of s).processors (pass_in-range s passes).processors_most (flow_of (book_of s) f) jobs (flow_in-range s f passes flow_in_is) of

-- the first parts of a pseudo-job are its parts, in a list of their own
parts-front : (taken : ℕ → ℕ) (n count : ℕ) (names takes : List ℕ) → count ≤ length names → PartsOf taken n names takes count →
    PartsOf taken n (take count names) (take count takes) (length (take count names))
parts-front taken n count names takes fits v = record {
  count = length-take-le count names fits ∙ v.count;
  name = λ i l some. get_or-take count names (parts_below taken i) 0 (omega (arith, v.count, part-before taken i n l some)) ∙ v.name i l some;
  amount = λ i l some. get_or-take count takes (parts_below taken i) 0 (omega (arith, v.count, part-before taken i n l some)) ∙ v.amount i l some;
}

-- ---- the pseudo-job that begins at a cut, in service
module _ {s : List ℕ} {f : ℕ} {jobs : List IdealJob} {most : ℕ} (h : FlowHeld s f jobs most) where
  in_range : FlowInRange (book_of s).processors (flow_of (book_of s) f)
  in_range = flow_in-range s f h.passes h.flow_in_is

  flow-sized : Sized (flow_of (book_of s) f)
  flow-sized = in-range-sized in_range

  jobs-few : job_count (flow_of (book_of s) f) ≤ 64
  jobs-few = in_range.jobs_most

  pub count-few : length jobs ≤ 64
  count-few = omega (arith, h.held.count, jobs-few)

  pub path-held : most ≡ path (flow_of (book_of s) f)
  path-held = h.held.path

  pub path-fits : most ≤ 64000000
  path-fits = omega (arith, path-held, path-most (flow_of (book_of s) f) h.held.fits)

  -- the loop begins at the release, with no run placed
  pub flow-kept-first : {limit slot : ℕ} (listed : Bool) (at : ℕ) (out area : List ℕ) → (flow_of (book_of s) f).release ≤ limit →
      slot ≡ (flow_of (book_of s) f).release → FlowKept listed (book_of s) f at limit out area out area 0 slot at
  flow-kept-first listed at out area l q = record {
    offset = at;
    offset_if = λ _. refl;
    offset_to = omega arith;
    cut_to = omega arith;
    slot_to = omega arith;
    out_length = refl;
    area_length = refl;
    so_far_lem = λ rows bytes used within. rw q (flow_begins (book_of s) f flow-sized rows bytes out area at used within);
  }

  -- what the code holds of it
  abbrev pub current_at : ℕ → ℕ → Run → Current
  current_at t P r = record { flow = f; processors = P; first = t; width = r.width; rate = r.rate }

  -- .. by what `run_at` answers
  module _ {t : ℕ} {names takes : List ℕ} {r : Run} (answer : (w : Flow) → ChainOf w jobs most → RunAt w t names takes r) where
    pub run-here : RunAt (flow_of (book_of s) f) t names takes r
    run-here = answer (flow_of (book_of s) f) h.held

    pub cut-within : t + r.width ≤ most
    cut-within = omega (arith, run-here.run.within, path-held)

    pub parts_within : r.parts ≤ length jobs
    parts_within = omega (arith, parts-counted (flow_of (book_of s) f) t names takes r run-here, h.held.count)

    pub held_at : {P : ℕ} (parts : List Part) → names ≡ names_in parts → takes ≡ takes_in parts → P ≡ (book_of s).processors →
        length jobs ≤ length parts → PartsHeld s (current_at t P r) (names_in (take r.parts parts)) (takes_in (take r.parts parts))
    held_at parts n k e whole =
        let long : r.parts ≤ length (names_in parts) = rw (length-map parts (λ p. p.job)) (omega (arith, parts_within)) in
        let here : PartsOf (λ i. take_of (flow_of (book_of s) f) i t) (job_count (flow_of (book_of s) f)) (names_in parts) (takes_in parts) r.parts =
        rw (n, k) at run-here.parts in
        record {
          in_service = record {
            passes = h.passes;
            flow_in_is = h.flow_in_is;
            processors = e;
            rate = run-here.rate;
            rate_positive = rw run-here.rate positive;
            width_positive = run-here.run.some;
          };
          parts = simp take-map at (parts-front _ _ r.parts (names_in parts) (takes_in parts) long here);
        }
      where
        positive : 0 < rate (flow_of (book_of s) f) (record { first = t; width = r.width })
        positive = unfold rate in slot-rate-positive (flow_of (book_of s) f) flow-sized t
            (omega (arith, run-here.run.within, run-here.run.some))

    -- where the flow stands at a cut, the run there is the current pseudo-job
    at-cut-under : (P : ℕ) (y : Beside) (slot : ℕ) (out area : List ℕ) (next : ℕ) → FlowSoFar (book_of s) f y t slot out area next →
        UnderwayBy s (current_at t P r) y slot
        (standing (pseudo_job (current_at t P r) ∷ runs (flow_of (book_of s) f) (path (flow_of (book_of s) f) - (t + r.width)) (t + r.width))
        0) out area next
    at-cut-under P y slot out area next so_far_lem =
        subst (λ (ps : List PseudoJob). Underway (book_of s) f y slot (standing ps 0) out area next) run-here.run.step so_far_lem.under

    flow-goes_on : (P : ℕ) (y : Beside) (slot at limit : ℕ) (out area out' area' : List ℕ) (slot' next' : ℕ) →
        FlowSoFar (book_of s) f y t slot out area at →
        RunPlaced s (current_at t P r) slot at limit out area out' area' slot' next' → FlowSoFar (book_of s) f y (t + r.width) slot' out'
        area' next'
    flow-goes_on P y slot at limit out area out' area' slot' next' so_far_lem placed =
        let done = placed.finished y _ (at-cut-under P y slot out area at so_far_lem) in
        record { under = done.under; finish = λ l. done.finish }

    pub flow-kept-next : {listed : Bool} {at limit : ℕ} {out₀ area₀ out area out' area' : List ℕ} {slot next : ℕ} {q : Option Placed} {p : Placed} (P : ℕ) →
        FlowKept listed (book_of s) f at limit out₀ area₀ out area t slot next →
        RunGoes listed s (current_at t P r) slot next limit out area out' area' q → q ≡ Some p →
        length out' ≡ length out → length area' ≡ length area →
        FlowKept listed (book_of s) f at limit out₀ area₀ out' area' (t + r.width) p.finish p.next
    flow-kept-next {listed} {at} {limit} {out₀} {area₀} {out} {area} {out'} {area'} {slot} {next} {q} {p} P k answer told same_out same_area =
        let went : RunGoes listed s (current_at t P r) slot next limit out area out' area' (Some p) =
        subst (λ (z : Option Placed). RunGoes listed s (current_at t P r) slot next limit out area out' area' z) told answer in
        let goes = went k.offset k.offset_if in
        let placed = goes.2 in
        record {
          offset = goes.0;
          offset_if = goes.1;
          offset_to = omega (arith, placed.next_within, placed.slot_after_is, k.offset_to);
          cut_to = run-here.run.within;
          slot_to = placed.slot_within;
          out_length = same_out ∙ k.out_length;
          area_length = same_area ∙ k.area_length;
          so_far_lem = λ rows bytes e within. flow-goes_on P (beside rows bytes out₀ at) slot k.offset limit out area out' area' p.finish goes.0
              (k.so_far_lem rows bytes e within) placed;
        }

    pub flow-kept_stops : {listed : Bool} {at limit : ℕ} {out₀ area₀ out area out' area' : List ℕ} {slot next : ℕ} {q : Option Placed} (P : ℕ) →
        FlowKept listed (book_of s) f at limit out₀ area₀ out area t slot next →
        RunGoes listed s (current_at t P r) slot next limit out area out' area' q → q ≡ None →
        (rows : List Row) (bytes : List ℕ) → area₀ ≡ work_used slots rows bytes → ((u : ℕ) → used_in rows u ≤ (book_of s).processors) →
        FlowInfeasible (book_of s) f limit rows bytes out₀ out' area'
    flow-kept_stops {listed} {at} {limit} {out₀} {area₀} {out} {area} {out'} {area'} {slot} {next} P k answer told rows bytes used within =
        let left : RunGoes listed s (current_at t P r) slot next limit out area out' area' None =
        subst (λ (z : Option Placed). RunGoes listed s (current_at t P r) slot next limit out area out' area' z) told answer in
        flow_stops (book_of s) f rows bytes out₀ out' area' at limit
        (left k.offset k.offset_if (beside rows bytes out₀ at) _
        (at-cut-under P (beside rows bytes out₀ at) slot out area k.offset (k.so_far_lem rows bytes used within)))

  pub flow-kept-done : {listed : Bool} {at limit : ℕ} {out₀ area₀ out area : List ℕ} {t slot next : ℕ} → limit ≤ 8192 →
      path (flow_of (book_of s) f) ≤ t →
      FlowKept listed (book_of s) f at limit out₀ area₀ out area t slot next →
      (rows : List Row) (bytes : List ℕ) → area₀ ≡ work_used slots rows bytes → ((u : ℕ) → used_in rows u ≤ (book_of s).processors) →
      FlowPlaced listed (book_of s) f limit rows bytes out₀ at out area (Some (record { finish = slot; next = next }))
  flow-kept-done {listed} {at} {limit} {out₀} {area₀} {out} {area} {t} {slot} {next} most over k rows bytes q within = (
    k.offset,
    k.offset_if,
    flow-done (book_of s) f rows bytes out₀ out area at limit t slot k.offset flow-sized jobs-few
        (path-positive s f h.passes h.flow_in_is) over (omega (arith, k.slot_to)) most k.offset_to (k.so_far_lem rows bytes q within),
  )
