-- The bytes of a whole connection, by how it ended: its messages were taken from those that came in, and the answers to them were written.
use Rattle.std.proofs.Common.{◌≡◌, ℕ, ◌+◌, List, [], ◌∷◌, ◌++◌, length, take, true, Option, refl, sym, ◌∙◌, ap, subst, append-nil, arith, inl, inr}
use Rattle.std.proofs.KnownBytes.{Appends-trans}
use Rattle.std.proofs.Math.Seq.{take-append-add}
use Rattle.std.proofs.lemmas.List.{length-append}
use Rattle.std.specs.Io.KnownBytes.{Appends, prepend_known}
use Rattle.mark_base.specs.Streams.{AppendsFront}
use Rattle.http_wire.specs.declared.stop.Stop.{Stop}
use Rattle.http_wire.specs.Answers.{answer_bytes_of, unable}
use Rattle.annotation_http.specs.declared.connection.ending.Ending.{Ending}
use Rattle.annotation_http.specs.declared.connection.ending.Ending.TheVariants as ending
use Rattle.annotation_http.specs.Connection.Headline.{Speaks, WritesTo}
use Rattle.annotation_http.specs.Connection.Headline as said
use Rattle.annotation_http.specs.Connection.Session.{AnsweredLast, Lacks, Owes, Served, SessionEnds, Stepped, StopAnswered, TakesKnown, bytes_from, bytes_of, owed}
use Rattle.annotation_http.specs.Connection.Steps.{Serving, place_of}
use Rattle.annotation_http.specs.Connection.Talk.{Talk, talk_ended, talk_lacking, talk_owing, talk_served, talk_stepped}
use Rattle.annotation_http.proofs.ConnectionProofs.SessionLemmas.{bytes_more, takes_known_more}

-- ---- what is shown

-- the messages of a talk were taken, and its bytes were written as the ending says
pub record Spoken (left rest before written : Option (List ℕ)) (place : ℕ) (talk : Talk) (end : Ending) : Type 0 where
  pub taken : TakesKnown left talk.messages rest
  pub bytes : List ℕ
  pub speaks : Speaks left rest place talk bytes
  pub writes : WritesTo end before written bytes

-- and all of them were written
record Whole (left rest before written : Option (List ℕ)) (place : ℕ) (talk : Talk) : Type 0 where
  taken : TakesKnown left talk.messages rest
  bytes : List ℕ
  speaks : Speaks left rest place talk bytes
  writes : Appends before written bytes

-- by an ending that is no fault of a write
as_spoken : {left rest before written : Option (List ℕ)} {place : ℕ} {talk : Talk} (end : Ending)
    → ((bytes : List ℕ) → Appends before written bytes → WritesTo end before written bytes) → Whole left rest before written place talk → Spoken left rest before written place talk end
as_spoken end by whole = record { taken = whole.taken; bytes = whole.bytes; speaks = whole.speaks; writes = by whole.bytes whole.writes }

-- ---- bytes in two parts

-- the second as far as the link took it
front_behind : (before sent written : Option (List ℕ)) (first second : List ℕ) → Appends before sent first → AppendsFront sent written second → AppendsFront before written (first ++ second)
front_behind before sent written first second all front = record {
  count = length first + front.count;
  fits = simp length-append (omega (arith, front.fits));
  bytes = subst (λ (bytes : List ℕ). Appends before written bytes) (sym (take-append-add first second front.count)) (Appends-trans before sent written first (take front.count second) all front.bytes);
}

-- ---- the parts of a talk

-- messages that were answered whole
served_whole : {faultless : Type 0} {old new : Serving} {left rest before written : Option (List ℕ)} {count : ℕ} (s : Served faultless old new left rest before written count)
    → Whole left rest before written (place_of new) (talk_served s)
served_whole {faultless} {old} {new} {left} {rest} {before} {written} s = record {
  taken = s.takes;
  bytes = bytes_from 0 s.messages s.answers ++ [];
  speaks = said.answers_all [] said.is_silent;
  writes = subst (λ (bytes : List ℕ). Appends before written bytes) (sym (append-nil (bytes_from 0 s.messages s.answers))) s.bytes;
}

-- and the answer to a stop
stop_whole : {faultless : Type 0} {old new : Serving} {left rest before written : Option (List ℕ)} (why : Stop) (a : StopAnswered faultless old new left rest before written why)
    → Whole left rest before written (place_of new) (talk_served a.refuses.stopped.served)
stop_whole {faultless} {old} {new} {left} {rest} {before} {written} why a = record {
  taken = a.refuses.stopped.served.takes;
  bytes = bytes_from 0 a.refuses.stopped.served.messages a.refuses.stopped.served.answers ++ answer_bytes_of a.refuses.answer (place_of new) true;
  speaks = said.answers_all _ (said.is_stopped why a.refuses.answer a.refuses.stopped.stops a.refuses.answers);
  writes = Appends-trans before a.sent written _ _ a.refuses.stopped.served.bytes a.bytes;
}

-- one more message was taken
stepped_taken : {faultless : Type 0} {old new : Serving} {left rest before sent : Option (List ℕ)} (s : Stepped faultless old new left rest before sent)
    → TakesKnown left (talk_stepped s).messages rest
stepped_taken {faultless} {old} {new} {left} {rest} s = takes_known_more left s.taken.between rest s.taken.served.messages s.taken.message s.taken.served.takes s.taken.takes

-- the bytes of all answers are those that were written, and those that are owed
stepped_bytes : {faultless : Type 0} {old new : Serving} {left rest before sent : Option (List ℕ)} (s : Stepped faultless old new left rest before sent)
    → bytes_from 0 (talk_stepped s).messages (talk_stepped s).answers ++ [] ≡ bytes_from 0 s.taken.served.messages s.taken.served.answers ++ owed s
stepped_bytes {faultless} {old} s =
    let e : 0 + length s.taken.served.messages ≡ s.taken.count = omega (arith, s.taken.served.number) in
    append-nil (bytes_from 0 (talk_stepped s).messages (talk_stepped s).answers)
    ∙ (bytes_more 0 old s.middle s.taken.served.messages s.taken.served.answers s.taken.message s.given s.taken.served.run
    ∙ ap (λ (n : ℕ). bytes_from 0 s.taken.served.messages s.taken.served.answers ++ bytes_of n s.taken.message s.given) e)

-- the last answer was written whole
last_whole : {faultless : Type 0} {old new : Serving} {left rest before written : Option (List ℕ)} (a : AnsweredLast faultless old new left rest before written)
    → Whole left rest before written (place_of new) (talk_stepped a.stepped)
last_whole {faultless} {old} {new} {left} {rest} {before} {written} a = record {
  taken = stepped_taken a.stepped;
  bytes = bytes_from 0 (talk_stepped a.stepped).messages (talk_stepped a.stepped).answers ++ [];
  speaks = said.answers_all [] said.is_silent;
  writes = subst (λ (bytes : List ℕ). Appends before written bytes) (sym (stepped_bytes a.stepped)) (Appends-trans before a.sent written _ _ a.stepped.taken.served.bytes a.bytes);
}

-- it was written that memory ran out
lacking_whole : {faultless : Type 0} {old new : Serving} {left rest before sent written : Option (List ℕ)} (l : Lacks faultless old new left rest before sent)
    → Appends sent written (unable (place_of new)) → Whole left rest before written (place_of new) (talk_lacking l)
lacking_whole {faultless} {old} {new} {left} {rest} {before} {sent} {written} (inl (count, served)) whole = record {
  taken = served.takes;
  bytes = bytes_from 0 served.messages served.answers ++ unable (place_of new);
  speaks = said.answers_all _ said.lacks_memory;
  writes = Appends-trans before sent written _ _ served.bytes whole;
}
lacking_whole {faultless} {old} {new} {left} {rest} {before} {sent} {written} (inr stepped) whole = record {
  taken = stepped_taken stepped;
  bytes = bytes_from 0 stepped.taken.served.messages stepped.taken.served.answers ++ unable (place_of new);
  speaks = said.lacks_last stepped.taken.served.messages stepped.taken.served.answers stepped.taken.message stepped.given refl;
  writes = Appends-trans before sent written _ _ stepped.taken.served.bytes whole;
}

-- a front of what was owed was written
owing_spoken : {faultless : Type 0} {old new : Serving} {left rest before sent written : Option (List ℕ)} {piece : List ℕ} (o : Owes faultless old new left rest before sent piece)
    → AppendsFront sent written piece → Spoken left rest before written (place_of new) (talk_owing o) ending.WriteFault
owing_spoken {faultless} {old} {new} {left} {rest} {before} {sent} {written} {piece} (inl (stepped, is)) front = record {
  taken = stepped_taken stepped;
  bytes = bytes_from 0 (talk_stepped stepped).messages (talk_stepped stepped).answers ++ [];
  speaks = said.answers_all [] said.is_silent;
  writes =
      subst (λ (bytes : List ℕ). AppendsFront before written bytes) (sym (stepped_bytes stepped))
      (front_behind before sent written _ (owed stepped) stepped.taken.served.bytes (subst (λ (bytes : List ℕ). AppendsFront sent written bytes) is front));
}
owing_spoken {faultless} {old} {new} {left} {rest} {before} {sent} {written} {piece} (inr (inl (why, refuses, is))) front = record {
  taken = refuses.stopped.served.takes;
  bytes = bytes_from 0 refuses.stopped.served.messages refuses.stopped.served.answers ++ answer_bytes_of refuses.answer (place_of new) true;
  speaks = said.answers_all _ (said.is_stopped why refuses.answer refuses.stopped.stops refuses.answers);
  writes = front_behind before sent written _ _ refuses.stopped.served.bytes (subst (λ (bytes : List ℕ). AppendsFront sent written bytes) is front);
}
owing_spoken {faultless} {old} {new} {left} {rest} {before} {sent} {written} {piece} (inr (inr (inl (count, served), is))) front = record {
  taken = served.takes;
  bytes = bytes_from 0 served.messages served.answers ++ unable (place_of new);
  speaks = said.answers_all _ said.lacks_memory;
  writes = front_behind before sent written _ _ served.bytes (subst (λ (bytes : List ℕ). AppendsFront sent written bytes) is front);
}
owing_spoken {faultless} {old} {new} {left} {rest} {before} {sent} {written} {piece} (inr (inr (inr stepped, is))) front = record {
  taken = stepped_taken stepped;
  bytes = bytes_from 0 stepped.taken.served.messages stepped.taken.served.answers ++ unable (place_of new);
  speaks = said.lacks_last stepped.taken.served.messages stepped.taken.served.answers stepped.taken.message stepped.given refl;
  writes = front_behind before sent written _ _ stepped.taken.served.bytes (subst (λ (bytes : List ℕ). AppendsFront sent written bytes) is front);
}

-- ---- a connection, by its ending

pub ended_spoken : (faultless : Type 0) (old new : Serving) (left : Option (List ℕ)) (held : List ℕ) (now before written : Option (List ℕ)) (end : Ending) (ends : SessionEnds faultless old new left held now before written end)
    → Spoken left (prepend_known held now) before written (place_of new) (talk_ended faultless old new left held now before written end ends) end
ended_spoken faultless old new left held now before written ending.End (stopped, all) = as_spoken ending.End (λ bytes whole. whole) (served_whole stopped.served)
ended_spoken faultless old new left held now before written ending.Cut (stopped, all) = as_spoken ending.Cut (λ bytes whole. whole) (served_whole stopped.served)
ended_spoken faultless old new left held now before written ending.BadHead (answered, few) = as_spoken ending.BadHead (λ bytes whole. whole) (stop_whole _ answered)
ended_spoken faultless old new left held now before written ending.NeedsLength (answered, few) = as_spoken ending.NeedsLength (λ bytes whole. whole) (stop_whole _ answered)
ended_spoken faultless old new left held now before written ending.TooLarge (answered, few) = as_spoken ending.TooLarge (λ bytes whole. whole) (stop_whole _ answered)
ended_spoken faultless old new left held now before written ending.Encoded (answered, few) = as_spoken ending.Encoded (λ bytes whole. whole) (stop_whole _ answered)
ended_spoken faultless old new left held now before written ending.Closed (answered, asks, few) = as_spoken ending.Closed (λ bytes whole. whole) (last_whole answered)
ended_spoken faultless old new left held now before written ending.Spent (inl (answered, all)) = as_spoken ending.Spent (λ bytes whole. whole) (last_whole answered)
ended_spoken faultless old new left held now before written ending.Spent (inr (why, answered, all)) = as_spoken ending.Spent (λ bytes whole. whole) (stop_whole why answered)
ended_spoken faultless old new left held now before written ending.ReadFault (count, served, unfinished) = as_spoken ending.ReadFault (λ bytes whole. whole) (served_whole served)
ended_spoken faultless old new left held now before written ending.WriteFault broken = owing_spoken broken.owes broken.front
ended_spoken faultless old new left held now before written ending.Memory (sent, lacks, whole) = as_spoken ending.Memory (λ bytes all. all) (lacking_whole lacks whole)
