-- The messages of a connection, by how it ended: they were answered in turn.
use Rattle.std.proofs.Common.{◌≡◌, ℕ, false, List, Option, inl, inr}
use Rattle.std.specs.List.{list_any}
use Rattle.annotation_http.specs.declared.connection.ending.Ending.{Ending}
use Rattle.annotation_http.specs.declared.connection.ending.Ending.TheVariants as ending
use Rattle.annotation_http.specs.Connection.Steps.{Given, Serving}
use Rattle.annotation_http.specs.Connection.Session.{Lacks, Owes, Run, Served, SessionEnds, Stepped}
use Rattle.annotation_http.specs.Connection.Talk.{Talk, talk_ended, talk_lacking, talk_owing, talk_served, talk_stepped}
use Rattle.annotation_http.proofs.ConnectionProofs.SessionLemmas.{none_more, run_more}

-- ---- each message has its step

served_run : {faultless : Type 0} {old new : Serving} {left now before written : Option (List ℕ)} {count : ℕ} (s : Served faultless old new left now before written count)
    → Run old (talk_served s).messages (talk_served s).answers new
served_run s = s.run

stepped_run : {faultless : Type 0} {old new : Serving} {left now before written : Option (List ℕ)} (s : Stepped faultless old new left now before written)
    → Run old (talk_stepped s).messages (talk_stepped s).answers new
stepped_run {faultless} {old} {new} s = run_more old s.middle new s.taken.served.messages s.taken.served.answers s.taken.message s.given s.taken.served.run s.step

lacking_run : {faultless : Type 0} {old new : Serving} {left now before written : Option (List ℕ)} (l : Lacks faultless old new left now before written)
    → Run old (talk_lacking l).messages (talk_lacking l).answers new
lacking_run (inl (count, served)) = served_run served
lacking_run (inr stepped) = stepped_run stepped

owing_run : {faultless : Type 0} {old new : Serving} {left now before written : Option (List ℕ)} {piece : List ℕ} (o : Owes faultless old new left now before written piece)
    → Run old (talk_owing o).messages (talk_owing o).answers new
owing_run (inl (stepped, is)) = stepped_run stepped
owing_run (inr (inl (why, refuses, is))) = served_run refuses.stopped.served
owing_run (inr (inr (lacks, is))) = lacking_run lacks

pub ended_run : (faultless : Type 0) (old new : Serving) (left : Option (List ℕ)) (held : List ℕ) (now before written : Option (List ℕ)) (end : Ending) (ends : SessionEnds faultless old new left held now before written end)
    → Run old (talk_ended faultless old new left held now before written end ends).messages (talk_ended faultless old new left held now before written end ends).answers new
ended_run faultless old new left held now before written ending.End (stopped, all) = served_run stopped.served
ended_run faultless old new left held now before written ending.Cut (stopped, all) = served_run stopped.served
ended_run faultless old new left held now before written ending.BadHead (answered, few) = served_run answered.refuses.stopped.served
ended_run faultless old new left held now before written ending.NeedsLength (answered, few) = served_run answered.refuses.stopped.served
ended_run faultless old new left held now before written ending.TooLarge (answered, few) = served_run answered.refuses.stopped.served
ended_run faultless old new left held now before written ending.Encoded (answered, few) = served_run answered.refuses.stopped.served
ended_run faultless old new left held now before written ending.Closed (answered, asks, few) = stepped_run answered.stepped
ended_run faultless old new left held now before written ending.Spent (inl (answered, all)) = stepped_run answered.stepped
ended_run faultless old new left held now before written ending.Spent (inr (why, answered, all)) = served_run answered.refuses.stopped.served
ended_run faultless old new left held now before written ending.ReadFault (count, served, unfinished) = served_run served
ended_run faultless old new left held now before written ending.WriteFault broken = owing_run broken.owes
ended_run faultless old new left held now before written ending.Memory (sent, lacks, whole) = lacking_run lacks

-- ---- where no fault of the keeper can come

-- no answer says that the keeper failed
abbrev IsKept : Talk → Type 0
IsKept talk = list_any (λ (given : Given). given.failed) talk.answers ≡ false

served_quiet : {faultless : Type 0} {old new : Serving} {left now before written : Option (List ℕ)} {count : ℕ} (s : Served faultless old new left now before written count) → faultless → IsKept (talk_served s)
served_quiet s f = (s.quiet f).0

stepped_quiet : {faultless : Type 0} {old new : Serving} {left now before written : Option (List ℕ)} (s : Stepped faultless old new left now before written) → faultless → IsKept (talk_stepped s)
stepped_quiet s f = none_more (λ (given : Given). given.failed) s.taken.served.answers s.given (s.taken.served.quiet f).0 (s.kept f).0

lacking_quiet : {faultless : Type 0} {old new : Serving} {left now before written : Option (List ℕ)} (l : Lacks faultless old new left now before written) → faultless → IsKept (talk_lacking l)
lacking_quiet (inl (count, served)) f = served_quiet served f
lacking_quiet (inr stepped) f = stepped_quiet stepped f

owing_quiet : {faultless : Type 0} {old new : Serving} {left now before written : Option (List ℕ)} {piece : List ℕ} (o : Owes faultless old new left now before written piece) → faultless → IsKept (talk_owing o)
owing_quiet (inl (stepped, is)) f = stepped_quiet stepped f
owing_quiet (inr (inl (why, refuses, is))) f = served_quiet refuses.stopped.served f
owing_quiet (inr (inr (lacks, is))) f = lacking_quiet lacks f

pub ended_quiet : (faultless : Type 0) (old new : Serving) (left : Option (List ℕ)) (held : List ℕ) (now before written : Option (List ℕ)) (end : Ending) (ends : SessionEnds faultless old new left held now before written end)
    → faultless → IsKept (talk_ended faultless old new left held now before written end ends)
ended_quiet faultless old new left held now before written ending.End (stopped, all) f = served_quiet stopped.served f
ended_quiet faultless old new left held now before written ending.Cut (stopped, all) f = served_quiet stopped.served f
ended_quiet faultless old new left held now before written ending.BadHead (answered, few) f = served_quiet answered.refuses.stopped.served f
ended_quiet faultless old new left held now before written ending.NeedsLength (answered, few) f = served_quiet answered.refuses.stopped.served f
ended_quiet faultless old new left held now before written ending.TooLarge (answered, few) f = served_quiet answered.refuses.stopped.served f
ended_quiet faultless old new left held now before written ending.Encoded (answered, few) f = served_quiet answered.refuses.stopped.served f
ended_quiet faultless old new left held now before written ending.Closed (answered, asks, few) f = stepped_quiet answered.stepped f
ended_quiet faultless old new left held now before written ending.Spent (inl (answered, all)) f = stepped_quiet answered.stepped f
ended_quiet faultless old new left held now before written ending.Spent (inr (why, answered, all)) f = served_quiet answered.refuses.stopped.served f
ended_quiet faultless old new left held now before written ending.ReadFault (count, served, unfinished) f = served_quiet served f
ended_quiet faultless old new left held now before written ending.WriteFault broken f = owing_quiet broken.owes f
ended_quiet faultless old new left held now before written ending.Memory (sent, lacks, whole) f = lacking_quiet lacks f
