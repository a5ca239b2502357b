use Rattle.std.proofs.Common.{◌≡◌, ◌∙◌, refl, arith}
use Rattle.std.proofs.lemmas.List.Elements.{length_all_zip}
use Rattle.survey_core.proofs.ListSteps.{Each-All, All-Each}
use Rattle.survey_state.proofs.FindingLemmas.{tools_kept_on}
use Rattle.eliminators.specs.Work.{Stays}
use Rattle.eliminators.proofs.ToolLemmas.{nothing_lost}
use Rattle.eliminators.proofs.WorkLemmas.{stays_same, stays_on, each_stays}
use Rattle.eliminators.proofs.ZipLemmas.{zip_same, zip_then}
use Rattle.eliminators.proofs.eliminator.worker.Goals as goal

pub loop-init : goal.loop-init
loop-init g c = let b = g.B.Bench in record {
  each = zip_same (Stays b.about b.listed b.worker b.seen) (stays_same b.about b.listed b.worker b.seen) c.args.benches.now.list.items;
  jobs = refl;
  rooms = nothing_lost c.args.tools.now;
}

pub work_at-requires-clause-high : goal.work_at-requires-clause-high
work_at-requires-clause-high g c =
    let b = g.B.Bench in
    let inv = c.loop.invariant in
    let long = length_all_zip (Stays b.about b.listed b.worker b.seen) c.args.benches.now.list.items c.loop.benches.list.items inv.each in
    omega (arith, long, inv.jobs, c.requires.many, c.in-Some-next.ensures.exists.1)

pub work_at-requires-clause-models : goal.work_at-requires-clause-models
work_at-requires-clause-models g c =
    let b = g.B.Bench in
    Each-All _ _ (each_stays b.about b.listed b.worker b.seen (λ a. (b.listed a).criteria ≡ c.args.model.now) c.args.benches.now.list.items
    c.loop.benches.list.items c.loop.invariant.each (All-Each _ _ c.requires.models))

pub loop-preserved : goal.loop-preserved
loop-preserved g c =
    let b = g.B.Bench in
    let inv = c.loop.invariant in
    record {
      each =
          zip_then (Stays b.about b.listed b.worker b.seen) (stays_on b.about b.listed b.worker b.seen) c.args.benches.now.list.items
          c.loop.benches.list.items c.work_at.new.self.list.items inv.each c.work_at.ensures.each;
      jobs = c.next-in-loop.ensures.same ∙ inv.jobs;
      rooms = tools_kept_on c.args.tools.now c.loop.tools c.work_at.new.tools inv.rooms c.work_at.ensures.rooms;
    }
