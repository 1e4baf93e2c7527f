pub mod CarriedLemmas
pub mod HoldLemmas
pub mod OpenLemmas
pub mod OpenedLemmas
pub mod PlanLemmas
pub mod VisitedLemmas
