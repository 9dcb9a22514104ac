use Rattle.std.proofs.Common.{◌≡◌, ◌∙◌, [], refl, subst, sym}
use Rattle.std.specs.Prelude.{true}
use Rattle.std.proofs.lemmas.Bool.{false≢true}
use Rattle.std.proofs.lemmas.List.{append-nil}
use Rattle.rtr_daemon.specs.Known.{SameClients, known_at}
use Rattle.rtr_daemon.specs.Queue.{IsQueued, QueuesBehind}
use Rattle.rtr_daemon.specs.Waiting.{is_blocked_client}
use Rattle.rtr_daemon.proofs.WaitingLaws.{FoundBefore, all_covered, found_more, found_none}
use Rattle.rtr_daemon.proofs.WakeLaws.{behind_on}
use Rattle.rtr_daemon.proofs.client_table.ClientTable.wake_blocked.Goals.{then-is_blocked, else-is_blocked}
use Rattle.rtr_daemon.proofs.client_table.ClientTable.wake_blocked.Goals as goal

pub loop-at-init : goal.loop-at-init
loop-at-init c = record { clients = λ t. refl; queue = ([], sym (append-nil c.args.self.now.queue.items)); found = found_none c.args.self.now c.none-waiting.result c.first-at.result c.first-at.ensures }

pub loop-at-preserved : goal.loop-at-preserved
loop-at-preserved c =
    let start = c.args.self.now in
    let table = c.loop-at.self in
    let mid = c.if-is_blocked.self in
    let token = c.in-Some.token in
    let before = c.loop-at.invariant in
    let same : SameClients table mid =
    elim c.if-is_blocked.branch [ then-is_blocked w ↦ subst (SameClients table) (sym w.self-is) w.wake.ensures.clients | else-is_blocked w ↦ subst (SameClients table) (sym w.self-is) (λ t. refl) ] in
    let behind : QueuesBehind table.queue.items mid =
    elim c.if-is_blocked.branch [
      | then-is_blocked w ↦ subst (QueuesBehind table.queue.items) (sym w.self-is) w.wake.ensures.queue
      | else-is_blocked w ↦ subst (QueuesBehind table.queue.items) (sym w.self-is) ([], sym (append-nil table.queue.items))
    ] in
    let tries : (is_blocked_client (known_at start token) ≡ true → IsQueued mid token) =
    elim c.if-is_blocked.branch [
      | then-is_blocked w ↦ λ is. subst (λ t. IsQueued t token) (sym w.self-is) w.wake.ensures.woken
      | else-is_blocked w ↦ λ is. absurd (false≢true (sym w.if-is_blocked.false ∙ c.is_blocked.ensures ∙ subst (λ known. is_blocked_client known ≡ true) (sym (before.clients token)) is))
    ] in
    record {
      clients = λ t. same t ∙ before.clients t;
      queue = behind_on start.queue.items table mid before.queue behind;
      found =
          subst (λ w. FoundBefore start mid w c.first_after-at.result) (sym c.with_client-waiting.ensures)
          (found_more start table mid c.loop-at.waiting token c.first_after-at.result before.clients same behind tries c.first_after-at.ensures (subst (FoundBefore start table c.loop-at.waiting) c.in-Some.is before.found));
    }

pub invariant_of-self-clause-covered : goal.invariant_of-self-clause-covered
invariant_of-self-clause-covered c =
    let found = subst (FoundBefore c.args.self.now c.loop-at.self c.loop-at.waiting) c.in_default.is c.loop-at.invariant.found in
    all_covered c.loop-at.waiting c.loop-at.self (λ t entry is. found.covered t entry tt is)

pub returns-clause-blocked : goal.returns-clause-blocked
returns-clause-blocked c t is =
    let found = subst (FoundBefore c.args.self.now c.loop-at.self c.loop-at.waiting) c.in_default.is c.loop-at.invariant.found in
    found.tried t tt is
