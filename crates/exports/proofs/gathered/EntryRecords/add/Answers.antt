use Rattle.std.proofs.Common.{◌≡◌, ◌∷◌, [], true}
use Rattle.exports.specs.Entry.{counts_at}
use Rattle.exports.specs.Until.{endings}
use Rattle.exports.proofs.Ends.{ends_of_one}
use Rattle.exports.proofs.gathered.EntryRecords.add.Goals as goal

pub returns-in_ok-push-3-clause-until : goal.returns-in_ok-push-3-clause-until
returns-in_ok-push-3-clause-until c ts h =
    let counts : true ≡ counts_at c.args.now c.args.entry.now = cc in
    c.sooner-self.ensures ts (endings c.args.now (c.args.entry.now ∷ [])) h (ends_of_one c.args.now c.args.entry.now counts)
