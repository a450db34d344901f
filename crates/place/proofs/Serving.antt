-- The ranges of what the code holds of a pseudo-job in service: they are those of a book that passes. Assumes nothing.
use mathlib.Core.Path.{◌≡◌}
use Prim.Native.Nat.{ℕ, ◌≤◌, ◌<◌}
use native.Mathlib.Omega.{arith}
use mathlib.Core.List.{List}
use lib.ListN.{length, get_or}
use Rattle.rules.specs.Verdicts.{Pass}
use Rattle.rules.specs.Book.{flow_count, job_count, flow_of, InRange, FlowInRange}
use Rattle.rules.specs.Ideal.{take_of}
use Rattle.rules.specs.Reading.{book_of, book_fault}
use Rattle.rules.specs.PseudoJobs.{rate}
use Rattle.rules.proofs.Reading.Caps.{used_in-range}
use Rattle.rules.proofs.Laws.Sums.{sum-le}
use Rattle.rules.proofs.Chains.Ideal.{take-within-cap}
use Rattle.rules.proofs.Reading.Passing.{pass_in-range}
use Rattle.place.specs.declared.Current.{Current}
use Rattle.place.specs.Service.{InService, PartsHeld, current_flow}
use Rattle.chain.proofs.Parts.{parts-few, amount-within}

-- no job of a book that passes takes more processors than there may be
pub takes-within : (s : List ℕ) (f t : ℕ) → book_fault s ≡ Pass → f < flow_count (book_of s) → (i : ℕ) → i < job_count (flow_of (book_of s) f) →
    take_of (flow_of (book_of s) f) i t ≤ 4096
takes-within s f t passes flow_in_is i l =
    let b = pass_in-range s passes in
    let j = (used_in-range b f flow_in_is).each_job i l in
    omega (arith, take-within-cap (flow_of (book_of s) f) i j.cap_least t, j.cap_most, b.processors_most)

module _ {s : List ℕ} {c : Current} (v : InService s c) where
  book_in-range : InRange (book_of s)
  book_in-range = pass_in-range s v.passes

  flow_in-range : FlowInRange (book_of s).processors (current_flow s c)
  flow_in-range = used_in-range book_in-range c.flow v.flow_in_is

  pub flow-within : c.flow < 64
  flow-within = omega (arith, v.flow_in_is, book_in-range.flows_most)

  pub jobs-within : job_count (current_flow s c) ≤ 64
  jobs-within = flow_in-range.jobs_most

  pub processors-within : c.processors ≤ 4096
  processors-within = omega (arith, v.processors, book_in-range.processors_most)

  pub take_within : (i : ℕ) → i < job_count (current_flow s c) → take_of (current_flow s c) i c.first ≤ 4096
  take_within = takes-within s c.flow c.first v.passes v.flow_in_is

  pub rate-within : c.rate ≤ 262144
  unfolding rate
  rate-within =
      omega (
        arith,
        v.rate,
        sum-le (λ i. take_of (current_flow s c) i c.first) 4096 (job_count (current_flow s c)) take_within,
        jobs-within,
      )

module _ {s : List ℕ} {c : Current} {names takes : List ℕ} (h : PartsHeld s c names takes) where
  pub parts_within : length names ≤ 64
  parts_within =
      omega (
        arith,
        h.parts.count,
        parts-few (λ i. take_of (current_flow s c) i c.first) (job_count (current_flow s c)),
        jobs-within h.in_service,
      )

  -- what is asked to pack the parts
  pub parts-fit : (q : ℕ) → q < length names → get_or takes q 0 ≤ 4096
  parts-fit = amount-within (λ i. take_of (current_flow s c) i c.first) _ names takes (length names) 4096 h.parts (take_within h.in_service)
