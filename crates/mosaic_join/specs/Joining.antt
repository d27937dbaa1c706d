-- The promise of joining the border records of a mosaic (paper 01, "Replies and what remains"): 9 for the mosaic's own numbers, records in turn with 8 or
-- 9, 2, 4, done.
-- Assumes nothing.
use Rattle.std.specs.Prelude.{Result, Ok, Err, List, [], ◌∷◌, ◌≡◌, ℕ, ◌<◌, length, replicate}
use Rattle.flow.specs.Net.{FirstLoop}
use Rattle.mosaic.specs.Join.{Totals, comes_in}
use Rattle.mosaic_read.specs.Read.{MosaicShape, UnlessRecords}
use Rattle.mosaic_read.specs.Records.{heights, widths}
use Rattle.mosaic_read.specs.Said.{borders, feeds_by, record_of, number_in, said_count, said_way, said_code}
use Rattle.promise.specs.Links.{Unless, UnlessSome, ◌then◌}
use Rattle.promise.specs.Reply.{Reply}
use Rattle.promise.specs.Reply.Reply.{reply}
use Rattle.sheet.specs.Sheet.{LoopFound, count_at}
use Rattle.mosaic_join.specs.declared.JoinError.{JoinError}
use Rattle.mosaic_join.specs.declared.JoinError.TheVariants.{Layout, Record, Length, Loop}

-- the paper's number and values for each answer
abbrev pub refusal_reply : JoinError → Reply
refusal_reply (Layout byte) = reply 9 (byte ∷ [])
refusal_reply (Record byte) = reply 8 (byte ∷ [])
refusal_reply Length = reply 2 []
refusal_reply (Loop tile border exits) = reply 4 (tile ∷ border ∷ exits ∷ [])

abbrev pub join_reply : Result Unit JoinError → Reply
join_reply (Ok done) = reply 0 []
join_reply (Err e) = refusal_reply e

-- the work buffers
pub record Work : Type 0 where
  pub work1 : List ℕ
  pub work2 : List ℕ
  pub work3 : List ℕ
  pub work4 : List ℕ
  pub work5 : List ℕ

abbrev pub works : List ℕ → List ℕ → List ℕ → List ℕ → List ℕ → Work
works a b c d e = record { work1 = a; work2 = b; work3 = c; work4 = d; work5 = e }

-- an outcome: what is said, and what the incoming and the work buffers then hold
pub record JoinOutcome : Type 0 where
  pub said : Reply
  pub incoming : List ℕ
  pub work : Work

abbrev pub ends : Reply → List ℕ → Work → JoinOutcome
ends said incoming work = record { said = said; incoming = incoming; work = work }

-- ---- what the records say

module _ (I J : ℕ) (bytes : List ℕ) where
  -- an exit's total is its own count plus all that comes in at border cells with that way
  abbrev pub TotalsBy : (ℕ → ℕ) → Type 0
  TotalsBy T = Totals I J (heights bytes J) (widths bytes) (said_count bytes I J) (said_way bytes I J) (said_code bytes I J) T

  -- a border cell's incoming is the sum of totals of exits of other tiles that step onto it
  abbrev pub incoming_by : (ℕ → ℕ) → ℕ → ℕ
  incoming_by T = comes_in I J (heights bytes J) (widths bytes) (said_way bytes I J) (said_code bytes I J) T

  -- exits that feed each other round: of all exits on any loop the first, and the number of exits on its loop
  abbrev pub ExitLoop : LoopFound → Type 0
  ExitLoop v = FirstLoop (borders I J bytes) (feeds_by I J bytes) v.place v.len

  -- ---- the promise

  -- incoming and four work buffers have one number for each border cell of the mosaic, the fifth has 128
  pub record JoinLengths (incoming : List ℕ) (work : Work) : Type 0 where
    pub incoming_long : length incoming ≡ borders I J bytes
    pub work1_long : length work.work1 ≡ borders I J bytes
    pub work2_long : length work.work2 ≡ borders I J bytes
    pub work3_long : length work.work3 ≡ borders I J bytes
    pub work4_long : length work.work4 ≡ borders I J bytes
    pub work5_long : length work.work5 ≡ 128

  -- work buffers that hold 0 throughout
  abbrev pub cleared : Work
  cleared = works (replicate (borders I J bytes) 0) (replicate (borders I J bytes) 0) (replicate (borders I J bytes) 0) (replicate (borders I J bytes) 0) (replicate 128 0)

  -- done: each border cell's incoming is that of the exits' totals, and the work buffers hold 0
  pub record Joined (e : JoinOutcome) : Type 0 where
    pub totals : ℕ → ℕ
    pub solve : TotalsBy totals
    pub long : length e.incoming ≡ borders I J bytes
    pub comes : (h : ℕ) → h < borders I J bytes → count_at e.incoming h ≡ incoming_by totals h
    pub work_clear : e.work ≡ cleared
    pub said_is : e.said ≡ reply 0 []

  -- of well-formed records and buffers whose lengths fit: 4, done. After 4 incoming and work buffers hold 0 throughout
  abbrev pub JoinExits : JoinOutcome → Type 0
  JoinExits =
      UnlessSome ExitLoop (λ v. ends (reply 4 (record_of bytes I J v.place ∷ number_in bytes I J v.place ∷ v.len ∷ [])) (replicate (borders I J bytes) 0) cleared) then
      Joined

-- joining: 9 with 0, records with 8 or 9, 2, 4, done. After every refusal but 4 incoming and work buffers are as they were lent
abbrev pub JoinPromise : (I J : ℕ) (bytes incoming : List ℕ) (work : Work) → JoinOutcome → Type 0
JoinPromise I J bytes incoming work =
    Unless (MosaicShape I J) (ends (reply 9 (0 ∷ [])) incoming work) then
    UnlessRecords I J bytes (λ r. ends r incoming work) then
    Unless (JoinLengths I J bytes incoming work) (ends (reply 2 []) incoming work) then
    JoinExits I J bytes
