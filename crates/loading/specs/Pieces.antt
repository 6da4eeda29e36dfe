-- One piece of the journal while it is read: what question 2 and the steps ask of it, and how a read ends. Whether it is there, and with how
-- many blocks, the superblock's interval says.
use Rattle.interval.specs.declared.JournalInterval.{JournalInterval}
use Rattle.std.specs.Prelude.{None, Some}
use Rattle.std.specs.declared.option.Option as code
use Rattle.std.specs.Prelude.{ℕ, Bool, true, false, cond, not, eqb}
use Rattle.superblock.specs.declared.JournalRead.{JournalRead}
use Rattle.superblock.specs.declared.JournalRead.TheVariants as read
use Rattle.loading.specs.declared.Piece.{Piece}
use Rattle.loading.specs.declared.Piece.TheVariants as piece

-- the piece is there, and its blocks
abbrev pub is_there : code.Option JournalInterval → Bool
is_there (Some v) = true
is_there None = false

abbrev pub blocks_of : code.Option JournalInterval → ℕ
blocks_of (Some v) = v.len
blocks_of None = 0

-- a piece that is read, or in, is there
abbrev pub piece_interval : Piece → code.Option JournalInterval → Bool
piece_interval piece.Unread v = true
piece_interval (piece.Reading id) v = is_there v
piece_interval piece.In v = is_there v

-- the read under an id is awaited
abbrev pub piece_reads : Piece → ℕ → Bool
piece_reads piece.Unread id = false
piece_reads (piece.Reading k) id = eqb k id
piece_reads piece.In id = false

abbrev pub piece_unread : Piece → Bool
piece_unread piece.Unread = true
piece_unread (piece.Reading id) = false
piece_unread piece.In = false

-- a piece that is there is in
abbrev pub piece_loaded : Piece → code.Option JournalInterval → Bool
piece_loaded piece.Unread v = not (is_there v)
piece_loaded (piece.Reading id) v = not (is_there v)
piece_loaded piece.In v = true

-- the two pieces are not read under one id
abbrev pub piece_reads_differ : Piece → Piece → Bool
piece_reads_differ piece.Unread other = true
piece_reads_differ (piece.Reading id) other = not (piece_reads other id)
piece_reads_differ piece.In other = true

-- 000's `if s.journalBackRead == Some(dop.id) then None else s.journalBackRead`
abbrev pub without_read : Piece → ℕ → Piece
without_read p id = cond (piece_reads p id) piece.Unread p

-- a whole read is in; a damaged one can be asked for again
abbrev pub piece_read : JournalRead → Piece
piece_read read.Whole = piece.In
piece_read read.Damaged = piece.Unread
