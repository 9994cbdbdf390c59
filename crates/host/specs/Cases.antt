-- What jt_intake and jt_read_trace write into their reports, and jt_write_trace says, computed: one row for each answer. Assumes nothing.
use Rattle.std.specs.Prelude.{ℕ, ◌≡◌, refl, List, [], ◌∷◌}
use Rattle.rules.specs.Intake.{Verdict, too_large, bad_row, bad_connector, bad_coupling, passed}
use Rattle.rules.specs.declared.Refusal.TheVariants.{NoOutRoom}
use Rattle.rules.specs.Base.{refused, done}
use Rattle.trace_files.specs.Files.{Reading, read, bad_block, no_room}
use Rattle.host.specs.Numbers.{intake_said, written_after, read_said}

-- five rows omit the field, and the report holds something else before
abbrev said_of : Verdict → List ℕ
said_of verdict = intake_said 5 verdict (7 ∷ 8 ∷ 9 ∷ [])

-- the same of what was read
abbrev said_reading : Reading → List ℕ
said_reading reading = read_said reading (7 ∷ 8 ∷ 9 ∷ [])

pub record Reports : Type 0 where
  pub too-large : said_of too_large ≡ 0 ∷ 0 ∷ 0 ∷ []
  pub bad-row : said_of (bad_row 63) ≡ 1 ∷ 63 ∷ 0 ∷ []
  pub bad-connector : said_of (bad_connector 2) ≡ 2 ∷ 2 ∷ 0 ∷ []
  pub bad-coupling : said_of (bad_coupling 0) ≡ 3 ∷ 0 ∷ 0 ∷ []
  pub passes : said_of (passed (record { rows = []; connectors = []; couplings = [] })) ≡ 0 ∷ 0 ∷ 5 ∷ []
  pub rows-read : said_reading (read (1 ∷ 2 ∷ 3 ∷ 4 ∷ 5 ∷ 6 ∷ 1 ∷ 2 ∷ 3 ∷ 4 ∷ 5 ∷ 6 ∷ [])) ≡ 2 ∷ 0 ∷ 0 ∷ []
  pub bad-block : said_reading (bad_block 3) ≡ 0 ∷ 3 ∷ 0 ∷ []
  pub no-room : said_reading no_room ≡ 0 ∷ 0 ∷ 0 ∷ []
  pub bytes-written : written_after 7 (done (1 ∷ 2 ∷ 3 ∷ [])) ≡ 3
  pub nothing_written : written_after 7 (refused NoOutRoom) ≡ 7

pub reports : Reports
reports = record { too-large = refl; bad-row = refl; bad-connector = refl; bad-coupling = refl; passes = refl; rows-read = refl; bad-block = refl; no-room = refl; bytes-written = refl; nothing_written = refl }
