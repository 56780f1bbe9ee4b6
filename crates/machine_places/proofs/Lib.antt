pub mod Lists
pub mod Units
pub mod Places
pub mod Goes
pub mod Words
pub mod Fits
pub mod Shared
