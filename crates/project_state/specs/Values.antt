-- The plain values of what is asked, answered and happens: what the definitions of a project speak of.
use Rattle.std.specs.Arc.{arc_value}
use Rattle.project_machine.specs.Requests.{Asked, ReadConf, ListDocs, ReadText, AddText, Checkout, TakeOver, Commit, Park, Finish, ReadLayer, Reopen, Ignore, Readmit, Snap, TakeSnapshot, Decide, Undecide, ReadPairs, ReadAlpha, ReadReport, View, Answered, Conf, Docs, Text, Added, HandedOut, Committed, Parked, Finished, Layer, Ignored, Snapped, Taken, Decided, Pairs, Alpha, Table, Refused, Happened, Founded, TextAdded, CheckedOut, TakenOver, LayerCommitted, LayerParked, LayerFinished, LayerReopened, LayerIgnored, LayerReadmitted, SnapshotTaken, ItemDecided, ItemUndecided, AllFreed, Restored}
use Rattle.project_machine.specs.Requests as plain
use Rattle.project_state.specs.declared.request.Request.{Request}
use Rattle.project_state.specs.declared.request.Request.TheVariants as asks
use Rattle.project_state.specs.declared.reply.Out.{Out}
use Rattle.project_state.specs.declared.reply.SnapshotView.{SnapshotView}
use Rattle.project_state.specs.declared.reply.Reply.{Reply}
use Rattle.project_state.specs.declared.reply.Reply.TheVariants as says
use Rattle.project_state.specs.declared.change.Change.{Change}
use Rattle.project_state.specs.declared.change.Change.TheVariants as does

-- what a request asks
abbrev pub asked_of : Request → Asked
asked_of asks.ReadConf = ReadConf
asked_of asks.ListDocs = ListDocs
asked_of (asks.ReadText doc) = ReadText doc
asked_of (asks.AddText doc text) = AddText doc text
asked_of (asks.Checkout doc) = Checkout doc
asked_of (asks.TakeOver doc) = TakeOver doc
asked_of (asks.Commit doc hold layer) = Commit doc hold (arc_value layer)
asked_of (asks.Park doc hold done undone) = Park doc hold done undone
asked_of (asks.Finish doc) = Finish doc
asked_of (asks.ReadLayer doc who) = ReadLayer doc who
asked_of (asks.Reopen doc who) = Reopen doc who
asked_of (asks.Ignore doc who) = Ignore doc who
asked_of (asks.Readmit doc who) = Readmit doc who
asked_of (asks.Snap doc) = Snap doc
asked_of (asks.TakeSnapshot number) = TakeSnapshot number
asked_of (asks.Decide number holder id verdict) = Decide number holder id verdict
asked_of (asks.Undecide number holder id) = Undecide number holder id
asked_of asks.Pairs = ReadPairs
asked_of asks.Alpha = ReadAlpha
asked_of (asks.Report report) = ReadReport report

-- a layer that is handed out
abbrev pub out_of : Out → plain.Out
out_of out = record { hold = out.hold; revision = out.revision; base = arc_value out.base; done = out.done; undone = out.undone; text = arc_value out.doc; conf = arc_value out.conf }

-- a snapshot that is read
abbrev pub view_of : SnapshotView → View
view_of view = record { holders = view.snapshot; verdicts = view.decisions; text = arc_value view.doc; conf = arc_value view.conf }

-- what a reply answers
abbrev pub answer_of : Reply → Answered
answer_of (says.Conf conf) = Conf (arc_value conf)
answer_of (says.Docs lines) = Docs lines
answer_of (says.Text doc) = Text (arc_value doc)
answer_of (says.Added tokens) = Added tokens
answer_of (says.Out out) = HandedOut (out_of out)
answer_of (says.Committed revision) = Committed revision
answer_of says.Parked = Parked
answer_of (says.Finished finished) = Finished finished
answer_of (says.Layer layer doc conf) = Layer (arc_value layer) (arc_value doc) (arc_value conf)
answer_of (says.Ignored ignored) = Ignored ignored
answer_of (says.Snapped number layers) = Snapped number layers
answer_of (says.Taken view) = Taken (view_of view)
answer_of (says.Decided count) = Decided count
answer_of (says.Pairs names lines) = Pairs names lines
answer_of (says.Alpha line) = Alpha line
answer_of (says.Table bytes) = Table bytes
answer_of (says.Refused refusal named) = Refused refusal named

-- what a change makes happen; a founding without a level has the level 255
abbrev pub happened_of : Change → Happened
happened_of (does.Found conf roster) = Founded (arc_value conf) 255 roster
happened_of (does.FoundAt conf roster level) = Founded (arc_value conf) level roster
happened_of (does.Restored place state) = Restored place (arc_value state).state
happened_of (does.AddText by name text) = TextAdded by name (arc_value text)
happened_of (does.Checkout by doc) = CheckedOut by doc
happened_of (does.TakeOver by doc) = TakenOver by doc
happened_of (does.Commit by doc hold layer) = LayerCommitted by doc hold (arc_value layer)
happened_of (does.Park by doc hold done undone) = LayerParked by doc hold done undone
happened_of (does.Finish by doc) = LayerFinished by doc
happened_of (does.Reopen by doc who) = LayerReopened by doc who
happened_of (does.Snap by doc) = SnapshotTaken by doc
happened_of (does.Decide by snapshot holder id verdict) = ItemDecided by snapshot holder id verdict
happened_of (does.Undecide by snapshot holder id) = ItemUndecided by snapshot holder id
happened_of does.FreeAll = AllFreed
happened_of (does.Ignore by doc who) = LayerIgnored by doc who
happened_of (does.Readmit by doc who) = LayerReadmitted by doc who
