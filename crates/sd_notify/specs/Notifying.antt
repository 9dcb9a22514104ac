-- The messages of a service to its service manager (sd_notify(3), sd_watchdog_enabled(3)).
use Rattle.std.specs.Prelude.{ℕ, ◌==◌, ◌-◌, if◌then◌else◌, List, [], ◌∷◌, ◌++◌, codes, Option, Some, None, option_map}
use Rattle.sd_notify.specs.Watchdogs.{WatchdogState, half_of, signalled}

-- The environment turns the watchdog on for the process of this number, or for each process if it names none. A time of 0 turns it off.
abbrev pub watchdog_of : Option ℕ → ℕ → Option WatchdogState
watchdog_of None now = None
watchdog_of (Some microseconds) now = if microseconds == 0 then None else Some (half_of microseconds, now)

abbrev pub enabled : Option ℕ → Option ℕ → ℕ → ℕ → Option WatchdogState
enabled None microseconds own now = watchdog_of microseconds now
enabled (Some process) microseconds own now = if process == own then watchdog_of microseconds now else None

-- what was sent, if that is known, and then this message
abbrev pub and_sent : List ℕ → Option (List (List ℕ)) → Option (List (List ℕ))
and_sent message sent = option_map (λ all. all ++ message ∷ []) sent

-- how long the service may wait before a signal is due
abbrev pub notifier_wait : Option WatchdogState → ℕ → ℕ
notifier_wait None now = 18446744073709551615
notifier_wait (Some w) now = w.0 - (now - w.1)

-- A signal is sent if it is due.
abbrev pub signal_sent : Option WatchdogState → ℕ → Option (List (List ℕ)) → Option (List (List ℕ))
signal_sent None now sent = sent
signal_sent (Some w) now sent = if (signalled now w).0 then and_sent (codes "WATCHDOG=1") sent else sent

abbrev pub after_signal : Option WatchdogState → ℕ → Option WatchdogState
after_signal watchdog now = option_map (λ w. (signalled now w).1) watchdog
