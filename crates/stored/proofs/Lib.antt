-- The laws about the definitions of specs/.

-- What the call says in numbers: the old 5 and 6, then 5 for the target.
pub mod ByLines
-- What the call answers and leaves, in each of its cases.
pub mod Told
-- What passed the check of the first form.
pub mod FirstSound
-- The bytes of an upgraded record.
pub mod UpgradedBytes
-- A rule of the first form and today's rule say the same of the same cells, but for the limit.
pub mod SameRules
-- What passed the old check passes the new one, and its task is the old task.
pub mod KeptTask
-- A longer stored record is judged and upgraded by its first 9,464 bytes.
pub mod LongerStored
