-- Document 01's edge cases, its example sheet, request N1's lists of mappings, request N2's order, request N6's transfers, request N7's dirty
-- colours, request N8's fetches, request N9's flushes and the cells of the page model.
pub mod Rows
pub mod Calls
pub mod Sheets
pub mod Lists
pub mod Order
pub mod Transfers
pub mod DirtyColours
pub mod Fetches
pub mod Flushes
pub mod Cells
pub mod Table
