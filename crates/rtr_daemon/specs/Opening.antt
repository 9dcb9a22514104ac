-- Which files are read, and what becomes of an accept.
use Rattle.std.specs.Prelude.{ℕ, ℤ, pos, int_le, unsigned_abs, Bool, true, false, ◌&&◌, ◌||◌, ◌==◌, nat_lt, if◌then◌else◌, Option, Some, None, Result, Ok, Err}
use Rattle.std.specs.IoError.{error_kind, raw_os_error}
use Rattle.std.specs.declared.io.Error.{Error}
use Rattle.std.specs.declared.io.ErrorKind.{ErrorKind}
use Rattle.std.specs.declared.io.ErrorKind.TheVariants as kinds
use Rattle.rtr_daemon.specs.declared.environment.AcceptResult.{AcceptResult}
use Rattle.rtr_daemon.specs.declared.environment.AcceptResult.TheVariants.{Again, Failed, NoRoom, WouldBlock}
use Rattle.rtr_daemon.specs.declared.poll_token.PollToken.{PollToken}
use Rattle.rtr_daemon.specs.declared.poll_token.PollToken.TheVariants as tokens
use Rattle.rtr_daemon.specs.declared.readable.FileForm.{FileForm}
use Rattle.rtr_daemon.specs.declared.readable.Unreadable.{Unreadable}
use Rattle.rtr_daemon.specs.declared.readable.Unreadable.TheVariants.{NotRegular, TooLarge}

-- A file is read if it is regular and has at most this many bytes.
abbrev pub judgement : ℕ → FileForm → Result (Unit {0}) Unreadable
judgement most form = if form.is_regular then (if nat_lt most form.size then Err TooLarge else Ok tt) else Err NotRegular

-- An error of accept(2) is of the connection alone if it was closed before it was accepted, or is one of the network.
abbrev pub is_of_one : ErrorKind → Bool
is_of_one kinds.ConnectionAborted = true
is_of_one kinds.Interrupted = true
is_of_one kinds.ConnectionReset = true
is_of_one kinds.NetworkDown = true
is_of_one kinds.NetworkUnreachable = true
is_of_one kinds.HostUnreachable = true
is_of_one kind = false

abbrev pub is_memory : ErrorKind → Bool
is_memory kinds.OutOfMemory = true
is_memory kind = false

abbrev pub would_block : ErrorKind → Bool
would_block kinds.WouldBlock = true
would_block kind = false

-- The process or the system has no descriptor or no memory left: ENOMEM, ENFILE, EMFILE or ENOBUFS.
abbrev pub is_shortage_number : ℕ → Bool
is_shortage_number number = number == 12 || number == 23 || number == 24 || number == 105

abbrev pub is_shortage_code : ℤ → Bool
is_shortage_code code = int_le (pos 0) code && is_shortage_number (unsigned_abs code)

abbrev pub is_shortage : Option ℤ → ErrorKind → Bool
is_shortage (Some code) kind = is_shortage_code code
is_shortage None kind = is_memory kind

-- what an accept came to that failed so
abbrev pub refused_accept : {L : Type 0} → Error → AcceptResult L
refused_accept e =
    if would_block (error_kind e) then WouldBlock
    else if is_of_one (error_kind e) then Again
    else if is_shortage (raw_os_error e) (error_kind e) then NoRoom
    else Failed e

-- The poll tokens: those below 65,535 are of listeners, this one is of the status pages. Connections of routers follow, and those of the pages from
-- 2^62 on.
abbrev pub token_of : ℕ → PollToken
token_of n =
    if nat_lt n 65535 then tokens.Listener n
    else if nat_lt n 65536 then tokens.StatusListener
    else if nat_lt n 4611686018427387904 then tokens.Connection n
    else tokens.StatusConnection n
