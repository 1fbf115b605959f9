-- What is set, as the reader holds it.
use Rattle.std.specs.Prelude.{map}
use Rattle.std.specs.Option.{option_map}
use Rattle.case_text.specs.declared.statements.Setting as statement
use Rattle.case_text.specs.declared.settings.Settings as set
use Rattle.case_text.specs.Statements.{Setting}
use Rattle.case_text.specs.Settings.{Settings}

abbrev pub setting_of : statement.Setting → Setting
setting_of setting = record { field = setting.field; rows = map (λ row. map (λ cell. cell.now) row.items) setting.rows.items }

abbrev pub settings_of : set.Settings → Settings
settings_of settings = record {
  version = settings.version;
  base = settings.base;
  bus = option_map (λ rows. map (λ row. map (λ cell. cell.now) row.items) rows.items) settings.bus;
  generators = option_map (λ rows. map (λ row. map (λ cell. cell.now) row.items) rows.items) settings.generators;
  branch = option_map (λ rows. map (λ row. map (λ cell. cell.now) row.items) rows.items) settings.branch;
}
