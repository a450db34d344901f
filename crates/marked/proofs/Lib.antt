-- The joint theorem of the marked plans.
pub mod MarkedPlans
