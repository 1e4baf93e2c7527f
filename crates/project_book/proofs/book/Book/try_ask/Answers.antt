use Rattle.project_state.specs.Values.{asked_of}
use Rattle.project_book.proofs.AskLemmas.{follows_judged, judged_at, keeps_it, only_told, refuses_it, unasked}
use Rattle.project_book.proofs.book.Book.try_ask.Goals as goal

pub returns-then-not-is_typed : goal.returns-then-not-is_typed
returns-then-not-is_typed g c =
    unasked g.K.Keeper.kept g.K.Keeper.doubt g.K.Keeper.moment g.K.Keeper.left_since g.K.Keeper.faults g.K.Keeper.faultless c.args.self.now c.args.caller.now (asked_of c.args.request) c.args.steps.now
    c.keeps.ensures.kept (g.met.K.Keeper.left_now c.args.self.now.keeper)

pub returns-in-Err : goal.returns-in-Err
returns-in-Err g c =
    unasked g.K.Keeper.kept g.K.Keeper.doubt g.K.Keeper.moment g.K.Keeper.left_since g.K.Keeper.faults g.K.Keeper.faultless c.args.self.now c.args.caller.now (asked_of c.args.request) c.args.steps.now
    c.keeps.ensures.kept (g.met.K.Keeper.left_now c.args.self.now.keeper)

pub returns-in_default : goal.returns-in_default
returns-in_default g c =
    only_told g.K.Keeper.kept g.K.Keeper.doubt g.K.Keeper.moment g.K.Keeper.left_since g.K.Keeper.faults g.K.Keeper.faultless c.args.self.now c.args.caller.now (asked_of c.args.request) c.in-Ok.judged c.args.steps.now
    c.keeps.ensures.kept (g.met.K.Keeper.left_now c.args.self.now.keeper)
    (judged_at _ c.args.self.now c.self.inside.state.state c.self.inside.groups c.self.inside.tables _ _ c.args.caller.now (asked_of c.args.request) c.in-Ok.judged c.self.view_is c.self.invariant c.in-Ok.ensures) c.in_default.is

pub returns-in-Ok-keep : goal.returns-in-Ok-keep
returns-in-Ok-keep g c =
    keeps_it g.K.Keeper.kept g.K.Keeper.doubt g.K.Keeper.moment g.K.Keeper.left_since g.K.Keeper.faults g.K.Keeper.faultless c.in-Ok-keep.field-0 c.args.self.now c.keep.new.self c.args.caller.now (asked_of c.args.request) c.in-Ok.judged c.in-Some.kept c.args.steps.now c.keep.new.steps
    c.keeps.ensures.kept
    (judged_at _ c.args.self.now c.self.inside.state.state c.self.inside.groups c.self.inside.tables _ _ c.args.caller.now (asked_of c.args.request) c.in-Ok.judged c.self.view_is c.self.invariant c.in-Ok.ensures) c.in-Some.is
    c.in-Ok-keep.ensures.kept c.in-Ok-keep.ensures.room c.in-Ok-keep.ensures.certain c.in-Ok-keep.ensures.any_moment c.in-Ok-keep.ensures.keeper c.in-Ok-keep.ensures.tables

pub returns-in-Err-keep : goal.returns-in-Err-keep
returns-in-Err-keep g c =
    refuses_it g.K.Keeper.kept g.K.Keeper.doubt g.K.Keeper.moment g.K.Keeper.left_since g.K.Keeper.faults g.K.Keeper.faultless c.in-Err-keep.fault c.args.self.now c.keep.new.self c.args.caller.now (asked_of c.args.request) c.in-Ok.judged c.in-Some.kept c.args.steps.now c.keep.new.steps
    c.keeps.ensures.kept
    (judged_at _ c.args.self.now c.self.inside.state.state c.self.inside.groups c.self.inside.tables _ _ c.args.caller.now (asked_of c.args.request) c.in-Ok.judged c.self.view_is c.self.invariant c.in-Ok.ensures) c.in-Some.is
    c.in-Err-keep.ensures.same c.in-Err-keep.ensures.had_room c.in-Err-keep.ensures.doubt c.in-Err-keep.ensures.doubt_memory c.in-Err-keep.ensures.any_moment c.in-Err-keep.ensures.keeper c.in-Err-keep.ensures.tables

pub keep-requires : goal.keep-requires
keep-requires g c = record {
  follows = follows_judged c.args.self.now.log c.args.caller.now (asked_of c.args.request) c.in-Ok.judged c.in-Some.kept c.keeps.ensures.legal (c.is_typed.ensures.typed c.if-not-is_typed.false)
      (judged_at _ c.args.self.now c.self.inside.state.state c.self.inside.groups c.self.inside.tables _ _ c.args.caller.now (asked_of c.args.request) c.in-Ok.judged c.self.view_is c.self.invariant c.in-Ok.ensures) c.in-Some.is;
}
