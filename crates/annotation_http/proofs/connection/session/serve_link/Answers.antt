use Rattle.std.proofs.Common.{◌≡◌, sym}
use Rattle.annotation_http.specs.Connection.Session.{ConnectionTold}
use Rattle.annotation_http.specs.Connection.Talk.{talk_of}
use Rattle.annotation_http.specs.Connection.Steps.{place_of, serving}
use Rattle.annotation_http.proofs.ConnectionProofs.CountLemmas.{connection_counted}
use Rattle.annotation_http.proofs.ConnectionProofs.HeadlineLemmas.{trustworthy}
use Rattle.annotation_http.proofs.ConnectionProofs.SessionLemmas.{connection_told}
use Rattle.annotation_http.proofs.ConnectionProofs.SpokenLemmas.{ended_spoken}
use Rattle.annotation_http.proofs.ConnectionProofs.TalkLemmas.{ended_run}
use Rattle.annotation_http.proofs.connection.session.serve_link.Goals as goal

pub returns-clause-session : goal.returns-clause-session
returns-clause-session g c = connection_told _ _ _ _ _ _ _ _ _ _ _ c.serve_messages-ending.ensures.stays c.serve_messages-ending.ensures.session c.park_last.ensures.parked

pub returns-clause-headline : goal.returns-clause-headline
returns-clause-headline g c =
    let told = returns-clause-session g c in
    let spoken = ended_spoken _ _ _ _ _ _ _ _ _ told.session.ends in
    record {
      talk = talk_of told;
      behind = told.session.held;
      taken = spoken.taken;
      place = place_of told.behind;
      bytes = spoken.bytes;
      speaks = spoken.speaks;
      writes = spoken.writes;
      by_one_history = λ more. c.connections_tell_one_history.ensures.history _ _ _ _ _ _ _ _ more told c.requires.legal;
      counted = λ some. connection_counted _ _ _ _ _ _ _ (ended_run _ _ _ _ _ _ _ _ _ told.session.ends) told.parked some;
      quiet = λ f. (c.connections_tell_one_history.ensures.quiet _ _ _ _ _ _ _ _ told f, told.still f);
      places = λ place at. trustworthy _ (c.committed_layers_obey.ensures _ place c.park_last.ensures.legal at);
    }
