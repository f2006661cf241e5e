-- How `csv` is set up to split a file into records.
use Rattle.std.specs.Prelude.{true, false, None}
use Rattle.csv.specs.declared.parser.Config.{Config}
use Rattle.csv.specs.declared.parser.Terminator.TheVariants as term

-- records end at LF, CR LF or CR, fields at a semicolon, and quotes mean nothing
abbrev pub plain_config : Config
plain_config = record {
  delimiter = 59;
  quote = 34;
  escape = None;
  double_quote = true;
  quoting = false;
  comment = None;
  terminator = term.CRLF;
}
