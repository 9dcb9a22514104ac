-- Which session, which session of version 0, and which first serial a run has (RFC 8210 section 5.1).
use Rattle.std.specs.Prelude.{◌≡◌, ℕ, Bool, true, false, List, Option, Some, None, unwrap_or, ⊤}
use Rattle.session_names.specs.Names.{first_serial, is_machine_id, session0_of, session_of}
use Rattle.session_names.specs.declared.choice.SessionChoice.{SessionChoice}
use Rattle.session_names.specs.declared.choice.GivenIds.{GivenIds}

-- What a host may answer: its machine id, its name, and a random session
pub record HostAnswers : Type 1 where
  pub machine_ids : List ℕ → Type 0
  pub names : List ℕ → Type 0
  pub randoms : ℕ → Type 0

abbrev pub any_host : HostAnswers
any_host = record { machine_ids = λ id. ⊤; names = λ name. ⊤; randoms = λ session. ⊤ }

-- The session of this host, these addresses and these sources
pub record IsOwn (host : HostAnswers) (listen sources : List ℕ) (session : ℕ) : Type 0 where
  pub machine_id : List ℕ
  pub has_id : host.machine_ids machine_id
  pub is_id : is_machine_id machine_id ≡ true
  pub name : List ℕ
  pub has_name : host.names name
  pub made : session ≡ session_of machine_id name listen sources

-- or a random one, as the host has no machine id
pub record IsRandom (host : HostAnswers) (session : ℕ) : Type 0 where
  pub machine_id : List ℕ
  pub has_id : host.machine_ids machine_id
  pub is_none : is_machine_id machine_id ≡ false
  pub random : host.randoms session

-- The session is the one that is given. If none is, it is that of the host, or random without a machine id.
abbrev pub IsSession : HostAnswers → List ℕ → List ℕ → Option ℕ → ℕ → Bool → Type 0
IsSession host listen sources (Some given) session is_random = (session ≡ given) × (is_random ≡ false)
IsSession host listen sources None session true = IsRandom host session
IsSession host listen sources None session false = IsOwn host listen sources session

-- The session of version 0 and the first serial are those that are given. If none is, they are made of the second of the start.
pub record IsChosen (host : HostAnswers) (given : GivenIds) (listen sources : List ℕ) (start : ℕ) (choice : SessionChoice) : Type 0 where
  pub session : IsSession host listen sources given.session choice.ids.session choice.is_random
  pub session0 : choice.ids.session0 ≡ unwrap_or given.session0 (session0_of start)
  pub serial : choice.ids.serial ≡ unwrap_or given.serial (first_serial start)
