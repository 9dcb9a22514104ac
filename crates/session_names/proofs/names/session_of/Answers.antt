use Rattle.std.proofs.Common.{◌≡◌, ◌++◌, ◌∙◌, [], ap}
use Rattle.sha2.specs.Sha256.{sha256}
use Rattle.session_names.specs.Names.{session_of, part_bytes, front_of, joined}
use Rattle.session_names.proofs.names.session_of.Goals as goal

pub returns : goal.returns
unfolding session_of
returns c =
    let id = part_bytes c.args.machine_id.now in
    let host = part_bytes c.args.host.now in
    let listen = part_bytes c.as_bytes.result.now in
    let sources = part_bytes c.as_bytes-2.result.now in
    let one = c.add_part.ensures [] c.new-hasher.ensures in
    let two = c.add_part-2.ensures id one in
    let three = c.add_part-3.ensures (id ++ host) two in
    let four = c.add_part-4.ensures ((id ++ host) ++ listen) three in
    let digest : c.finalize-digest.result ≡ sha256 (((id ++ host) ++ listen) ++ sources) = c.finalize-digest.ensures (((id ++ host) ++ listen) ++ sources) four in
    let parts : ((id ++ host) ++ listen) ++ sources ≡ joined c.args.machine_id.now c.args.host.now c.args.listen.now c.args.sources.now =
    λ i. id ++ host ++ part_bytes (c.as_bytes.ensures.value i) ++ part_bytes (c.as_bytes-2.ensures.value i) in
    rw (c.from.ensures, c.from-2.ensures) (ap front_of (digest ∙ ap sha256 parts))
