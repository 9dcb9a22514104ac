-- The lines of a table, and those whose bytes are sent again.
use Rattle.std.specs.Prelude.{ℕ, ◌==◌, ◌&&◌, List, [], ◌∷◌, ◌++◌, Option, Some, None, if◌then◌else◌}
use Rattle.tcp_table.specs.Columns.{is_same, is_unanswered, line_in}
use Rattle.tcp_table.specs.declared.endpoint.Endpoint.{Endpoint}
use Rattle.tcp_table.specs.declared.line.TcpLine.{TcpLine}

-- the connection, if bytes of it are sent again
abbrev pub if_unanswered : Option TcpLine → List TcpLine
if_unanswered None = []
if_unanswered (Some line) = if is_unanswered line then line ∷ [] else []

abbrev pub kept : List ℕ → List TcpLine
kept line = if_unanswered (line_in line)

-- the connections of a text whose first line continues so; a line ends by a newline, and the last one by the end
abbrev pub after_line : List ℕ → List ℕ → List TcpLine
after_line line [] = kept line
after_line line (c ∷ text) = if c == 10 then kept line ++ after_line [] text else after_line (line ++ c ∷ []) text

-- the connections of a table of which bytes are sent again
abbrev pub unanswered : List ℕ → List TcpLine
unanswered table = after_line [] table

-- how many bytes of the connection between these ends are sent again
abbrev pub bytes_of : Endpoint → Endpoint → List TcpLine → Option ℕ
bytes_of local remote [] = None
bytes_of local remote (line ∷ lines) = if is_same line.local local && is_same line.remote remote then Some line.unacknowledged else bytes_of local remote lines
