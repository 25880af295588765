-- Request N11: what a step costs by the contract's tariff, and the accounts that it goes to.
pub mod Tariff
pub mod Accounts
