use Rattle.std.proofs.Common.{◌∙◌, Some, None, length, sym, ap, append-nil}
use Rattle.fq_model.specs.declared.config.Config.{Config}
use Rattle.fq_model.specs.History.{history_of}
use Rattle.fq_model.specs.Keys.{keys_at}
use Rattle.journal_check.proofs.Turns.{head_more, heads_all}
use Rattle.journal_check.proofs.explaining.heads_of.Goals.{in-Some+in_ok-push, in_default}
use Rattle.journal_check.proofs.explaining.heads_of.Goals as goal

pub loop-tenant-init : goal.loop-tenant-init
loop-tenant-init g c = λ m. c.new-heads.ensures.items

pub loop-tenant-preserved : goal.loop-tenant-preserved
loop-tenant-preserved g c = λ m.
    let scheduler = c.args.scheduler.now in
    let keys = keys_at scheduler.config (history_of scheduler.past) m in
    let heads = c.loop-tenant.heads.items in
    elim c.match-keys.branch [
      | in-Some+in_ok-push w ↦ head_more keys c.loop-tenant.tenant heads w.push.new.self.items c.match-keys.heads.items c.keys.result (Some w.in-Some.keys)
          (c.loop-tenant.invariant m) (c.keys.ensures m) w.in-Some.is w.in_ok-push.ensures.items (ap (λ v. v.items) w.heads-is)
      | in_default w ↦ head_more keys c.loop-tenant.tenant heads heads c.match-keys.heads.items c.keys.result None
          (c.loop-tenant.invariant m) (c.keys.ensures m) w.in_default.is (sym (append-nil heads)) (ap (λ v. v.items) w.heads-is)
    ]

pub returns : goal.returns
returns g c = λ m.
    let scheduler = c.args.scheduler.now in
    heads_all (keys_at scheduler.config (history_of scheduler.past) m) c.loop-tenant.tenant c.tenants-tenant-end.result (length scheduler.config.weights) c.loop-tenant.heads.items
    c.loop-tenant.auto.tenant-end c.loop-tenant-test.false (c.tenants-tenant-end.ensures.value ∙ ap (λ (config : Config). length config.weights) c.config.ensures) (c.loop-tenant.invariant m)
