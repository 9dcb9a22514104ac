-- Levels of events, worked out.
use Rattle.std.specs.Prelude.{◌≡◌, false, refl}
use Rattle.event_log.specs.declared.event.LogEvent.TheVariants as event
use Rattle.event_log.specs.declared.level.LogLevel.TheVariants as level
use Rattle.event_log.specs.Levels.{is_of_client, level_of, severity}

-- both ends of the levels
most_severe : severity level.Error ≡ 3
most_severe = refl

least_severe : severity level.Info ≡ 6
least_severe = refl

lost_lines : level_of (event.Dropped 1) ≡ level.Error
lost_lines = refl

left_out_lines : level_of (event.Suppressed 800 10) ≡ level.Warning
left_out_lines = refl

a_report_is_of_no_client : is_of_client (event.Suppressed 800 10) ≡ false
a_report_is_of_no_client = refl
